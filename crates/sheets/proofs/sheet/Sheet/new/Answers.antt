-- `Sheet::new` meets its contract: of the three checks the first that fails refuses.
use Rattle.std.proofs.Common.{rules}
use Rattle.sheets.proofs.Refused.{told_err, err_stands, ok_next, last_link}
use Rattle.sheets.proofs.sheet.Sheet.new.Goals as goal

pub returns-in_err-n-clause-answer : goal.returns-in_err-n-clause-answer
returns-in_err-n-clause-answer c = search (rules, err_stands, told_err _ _ c.from_residual.ensures.1)

pub returns-in_err-short-clause-answer : goal.returns-in_err-short-clause-answer
returns-in_err-short-clause-answer c = search (rules, ok_next, err_stands, told_err _ _ c.from_residual-in_err-short.ensures.1)

pub returns-clause-answer : goal.returns-clause-answer
returns-clause-answer c = search (rules, ok_next, last_link)
