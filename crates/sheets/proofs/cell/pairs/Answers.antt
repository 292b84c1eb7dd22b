-- `cell::pairs` meets its contract.
use Rattle.sheets.proofs.Placed.{pairs_drawn}
use Rattle.sheets.proofs.Cells.{pairs_lt}
use Rattle.sheets.proofs.cell.pairs.Goals as goal

pub returns-clause-set : goal.returns-clause-set
returns-clause-set c = pairs_drawn c.args.phrase c.requires

pub returns-clause-few : goal.returns-clause-few
returns-clause-few c = rw (pairs_drawn c.args.phrase c.requires) (pairs_lt c.args.phrase)
