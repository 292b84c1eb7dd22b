-- `complement` meets its promise: a refusal of the sheet, and what `publish` gives of the marks of the complement.
use Rattle.std.proofs.Common.{rules}
use mathlib.Core.Path.{refl}
use Rattle.sheets.proofs.Lists.{complemented_marks}
use Rattle.sheets.proofs.Published.{told_no_count, listed_err, listed_room, afterwards_err}
use Rattle.sheets.specs.Listing.{of_sheet}
use Rattle.sheets.proofs.complement.Goals as goal

pub returns-in_err-sheet : goal.returns-in_err-sheet
returns-in_err-sheet c = search (rules, told_no_count _ _ c.from_residual.ensures.1, listed_err, afterwards_err)

pub returns : goal.returns
returns c =
    let a = c.args in
    let s = c.in_ok-sheet.sheet in
    let (same_n, same_phrases) = c.in_ok-sheet.ensures.given in
    let marks = rw (same_n, same_phrases) at (complemented_marks s.n.count s.n.few s.phrases.now _ _ _ _ s.own
    c.of_sheet.ensures c.exchange.ensures c.others-within.ensures c.primes.ensures) in record {
      answered = listed_room (of_sheet a.n a.sheet.now) _ _ c.in_ok-sheet.ensures.answer _ (rw marks at c.publish.ensures.answer);
      sheet_kept = refl;
      codes_after = rw marks at c.publish.ensures.buffer;
    }
