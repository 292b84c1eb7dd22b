-- `Sheet::check` meets its contract: the test for a code of the sheet's variables decides.
use Rattle.std.proofs.Common.{rules}
use borrow.Author.Tests.{lt-ltb, le-ltb}
use Rattle.sheets.proofs.Told.{unless_holds, unless_fails}
use Rattle.sheets.proofs.sheet.Sheet.check.Goals as goal

pub returns-then-phrase-codes : goal.returns-then-phrase-codes
returns-then-phrase-codes c = search (rules, unless_fails, le-ltb)

pub returns : goal.returns
returns c = unless_holds 12 _ (lt-ltb _ _ (rw c.codes.ensures at c.if-phrase-codes.false))
