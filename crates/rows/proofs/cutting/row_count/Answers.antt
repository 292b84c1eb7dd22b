-- `cutting::row_count` meets its contract, by the laws of `LowCodes`.
use native.Mathlib.Omega.{arith}
use Rattle.rows.proofs.LowCodes.{count_3, count_6}
use Rattle.rows.proofs.cutting.row_count.Goals as goal

pub returns-in-0-to-3 : goal.returns-in-0-to-3
returns-in-0-to-3 c = count_3 c.args.n (let h = c.in-0-to-3 in omega arith)

pub returns-in_default : goal.returns-in_default
returns-in_default c = count_6 c.args.n (let h = c.in_default in omega arith)
