-- `sheet::short` meets its contract: the test on the sheet's length decides.
use borrow.Author.Tests.{le-leb, lt-leb}
use Rattle.sheets.proofs.Told.{unless_holds, unless_fails}
use Rattle.sheets.proofs.sheet.short.Goals as goal

pub returns-then-sheet-gt-MOST_PHRASES : goal.returns-then-sheet-gt-MOST_PHRASES
returns-then-sheet-gt-MOST_PHRASES c = unless_fails _ _ (lt-leb _ _ c.if-sheet-gt-MOST_PHRASES.true)

pub returns : goal.returns
returns c = unless_holds _ _ (le-leb _ _ c.if-sheet-gt-MOST_PHRASES.false)
