-- `Grades::new` meets its contract: of the three checks the first that fails refuses, and where none does the grades are in order.
use Rattle.std.proofs.Common.{rules}
use native.Mathlib.Omega.{arith}
use borrow.Author.Tests.{eq-eqb, ne_eqb}
use Rattle.sheets.proofs.Found.{found_refuses, none_passes, none_below}
use Rattle.sheets.proofs.Refused.{first_stands, ok_next, last_link}
use Rattle.sheets.proofs.Told.{unless_holds, unless_fails, inside, outside}
use Rattle.sheets.proofs.grade.Grades.new.Goals as goal

pub returns-then-scale-lt-LEAST_SCALE-clause-answer : goal.returns-then-scale-lt-LEAST_SCALE-clause-answer
returns-then-scale-lt-LEAST_SCALE-clause-answer c = search (rules, first_stands, unless_fails, outside)

pub returns-then-grades-n-clause-answer : goal.returns-then-grades-n-clause-answer
returns-then-grades-n-clause-answer c = search (rules, ok_next, unless_holds, inside, first_stands, unless_fails, ne_eqb)

pub returns-in-Some-clause-answer : goal.returns-in-Some-clause-answer
returns-in-Some-clause-answer c = search (rules, ok_next, unless_holds, inside, eq-eqb, last_link, found_refuses)

pub invariant_of-result-clause-low : goal.invariant_of-result-clause-low
invariant_of-result-clause-low c g m = omega (arith, none_below _ _ _ c.at_least.ensures c.in_default.is g m)

pub returns-clause-answer : goal.returns-clause-answer
returns-clause-answer c = search (rules, ok_next, unless_holds, inside, eq-eqb, last_link, none_passes)
