-- `grade::literal` meets its contract: a case for each digit.
use mathlib.Core.Path.{◌≡◌}
use native.Mathlib.Omega.{arith}
use Rattle.fuzzy.specs.Grade.{literal}
use Rattle.sheets.proofs.grade.literal.Goals as goal

pub returns-in-0 : goal.returns-in-0
unfolding literal
returns-in-0 c = rw c.in-0.is

pub returns-in-1 : goal.returns-in-1
unfolding literal
returns-in-1 c = rw c.in-1.is

pub returns-in-2 : goal.returns-in-2
unfolding literal
returns-in-2 c = rw c.in-2.is

pub returns-in_default : goal.returns-in_default
unfolding literal
returns-in_default c = let e : c.args.digit ≡ 3 = omega arith in rw e c.min.ensures
