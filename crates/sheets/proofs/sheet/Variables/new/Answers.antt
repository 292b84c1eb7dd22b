-- `Variables::new` meets its contract: the test for 1 to 6 decides.
use Rattle.std.proofs.Common.{rules}
use Rattle.sheets.proofs.Told.{unless_holds, unless_fails, inside, outside}
use Rattle.sheets.proofs.sheet.Variables.new.Goals as goal

pub returns-then-count-lt1-clause-answer : goal.returns-then-count-lt1-clause-answer
returns-then-count-lt1-clause-answer c = unless_fails _ _ (outside c.then-count-lt1.either)

pub returns-clause-answer : goal.returns-clause-answer
returns-clause-answer c = search (rules, unless_holds, inside)
