-- `cell::side` meets its contract.
use Rattle.std.proofs.Common.{rules}
use Rattle.sheets.proofs.Placed.{side_none, side_other}
use Rattle.sheets.proofs.cell.side.Goals as goal

pub returns-in-0 : goal.returns-in-0
returns-in-0 c = side_none c.args.digit c.args.plain c.in-0.is

pub returns-in_default : goal.returns-in_default
returns-in_default c = side_other c.args.digit c.args.plain c.requires (search rules) (search rules)
