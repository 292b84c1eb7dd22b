-- `vector::half_digit` meets its contract: a case for each grade.
use mathlib.Core.Path.{◌≡◌}
use native.Mathlib.Omega.{arith}
use Rattle.fuzzy.proofs.Reach.{reach_digit}
use Rattle.sheets.proofs.vector.half_digit.Goals as goal

pub returns-in-0 : goal.returns-in-0
unfolding reach_digit
returns-in-0 c = rw c.in-0.is

pub returns-in-1 : goal.returns-in-1
unfolding reach_digit
returns-in-1 c = rw c.in-1.is

pub returns-in_default : goal.returns-in_default
unfolding reach_digit
returns-in_default c = let e : c.args.grade ≡ 2 = omega arith in rw e
