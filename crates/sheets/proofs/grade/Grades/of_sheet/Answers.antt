-- `Grades::of_sheet` meets its contract.
use Rattle.std.proofs.Common.{rules}
use Rattle.sheets.proofs.Scan.{sheet_step, sheet_end}
use Rattle.sheets.proofs.grade.Grades.of_sheet.Goals as goal

pub loop-phrase-preserved : goal.loop-phrase-preserved
loop-phrase-preserved c = search (rules, sheet_step)

pub returns : goal.returns
returns c = search (rules, sheet_end)
