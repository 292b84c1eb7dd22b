-- `Sheet::over` meets its contract: what the scan finds decides, and where it finds nothing every code is one of the sheet's variables.
use Rattle.std.proofs.Common.{rules}
use Rattle.sheets.proofs.Found.{found_refuses, none_passes, none_below}
use Rattle.sheets.proofs.sheet.Sheet.over.Goals as goal

pub returns-in-Some-clause-answer : goal.returns-in-Some-clause-answer
returns-in-Some-clause-answer c = search (rules, found_refuses)

pub invariant_of-result : goal.invariant_of-result
invariant_of-result c = record { own = rw c.codes.ensures at (none_below c.codes.result _ _ c.at_least_of_many.ensures c.in_default.is) }

pub returns-clause-answer : goal.returns-clause-answer
returns-clause-answer c = rw c.codes.ensures at (none_passes c.codes.result _ _ 3 c.at_least_of_many.ensures c.in_default.is)
