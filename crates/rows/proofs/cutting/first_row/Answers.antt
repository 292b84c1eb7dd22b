-- `cutting::first_row` meets its contract, by the laws of `LowCodes`.
use native.Mathlib.Omega.{arith}
use Rattle.rows.proofs.LowCodes.{low_0, low_1, low_2, low_3}
use Rattle.rows.proofs.cutting.first_row.Goals as goal

pub returns-in-0 : goal.returns-in-0
returns-in-0 c = low_0 c.args.n c.in-0.is

pub returns-in-1 : goal.returns-in-1
returns-in-1 c = low_1 c.args.n c.in-1.is

pub returns-in-2 : goal.returns-in-2
returns-in-2 c = low_2 c.args.n c.in-2.is

pub returns-in_default : goal.returns-in_default
returns-in_default c = low_3 c.args.n (let h = c.in_default in omega arith)
