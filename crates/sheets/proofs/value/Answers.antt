-- `value` meets its promise: a refusal of the sheet, one of the grades, and a value are what the promise says.
use Rattle.std.proofs.Common.{rules}
use Rattle.sheets.proofs.Promise.{value_sheet_refused, value_grades_refused, value_done}
use Rattle.sheets.proofs.value.Goals as goal

pub returns-in_err-sheet : goal.returns-in_err-sheet
returns-in_err-sheet c = value_sheet_refused _ _ _ _ _ _ c.from_residual.ensures.1 c.in_err-sheet.ensures.answer

pub returns-in_err-grades : goal.returns-in_err-grades
returns-in_err-grades c =
    let (same_n, same_phrases) = c.in_ok-sheet.ensures.given in
    value_grades_refused _ _ _ _ c.in_ok-sheet.ensures.answer _ _ c.from_residual-in_err-grades.ensures.1 (rw same_n at c.in_err-grades.ensures.answer)

pub returns : goal.returns
returns c = search (rules, value_done)
