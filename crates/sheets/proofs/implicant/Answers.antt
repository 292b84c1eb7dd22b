-- `implicant` meets its promise: a refusal of the sheet, one of the phrase, and a verdict are what the promise says.
use Rattle.std.proofs.Common.{rules}
use native.Mathlib.Omega.{arith}
use Rattle.sheets.proofs.Refused.{last_link}
use Rattle.sheets.proofs.Promise.{question_sheet_refused, phrase_refused, phrase_below, question_done}
use Rattle.sheets.proofs.implicant.Goals as goal

pub returns-in_err-sheet : goal.returns-in_err-sheet
returns-in_err-sheet c = question_sheet_refused _ _ _ _ _ c.from_residual.ensures.1 c.in_err-sheet.ensures.answer

pub returns-in_err-check : goal.returns-in_err-check
returns-in_err-check c =
    phrase_refused _ _ _ c.in_ok-sheet.ensures.answer _ _ c.from_residual-in_err-check.ensures.1
    (last_link _ _ _ _ (omega arith) (rw c.in_ok-sheet.ensures.given.0 at c.in_err-check.ensures))

pub lowest-requires : goal.lowest-requires
lowest-requires c = phrase_below _ _ c.in_ok-check.ensures

pub returns : goal.returns
returns c = search (rules, question_done, last_link)
