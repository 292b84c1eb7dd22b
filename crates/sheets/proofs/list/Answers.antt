-- `list` meets its promise: a refusal of the sheet, one for want of room, and the list with its flags.
use Rattle.std.proofs.Common.{rules}
use mathlib.Core.Path.{refl, sym, ◌∙◌}
use Rattle.std.proofs.Common.{length-take-le}
use Rattle.fuzzy.proofs.Closure.{of_sheet_lem}
use Rattle.fuzzy.specs.Function.{sheet_fn}
use Rattle.sheets.proofs.Flags.{codes_fit, flags_fit, front_read, reads, flags_done}
use Rattle.sheets.proofs.Lists.{listed_marks}
use Rattle.sheets.proofs.Published.{told_no_count, listed_err, afterwards_err, listed_room, written_done, done_fits}
use Rattle.sheets.specs.Answer.{Listed, done}
use Rattle.sheets.specs.Listing.{of_sheet}
use Rattle.sheets.proofs.list.Goals as goal

pub returns-in_err-sheet : goal.returns-in_err-sheet
returns-in_err-sheet c = search (rules, told_no_count _ _ c.from_residual.ensures.1, listed_err, afterwards_err)

pub returns-in_err-count : goal.returns-in_err-count
returns-in_err-count c =
    let a = c.args in
    let s = c.in_ok-sheet.sheet in
    let (same_n, same_phrases) = c.in_ok-sheet.ensures.given in
    let marks = rw (same_n, same_phrases) at (listed_marks s.n.count s.n.few s.phrases.now _ _ s.own c.of_sheet.ensures c.primes-primes.ensures) in
    let h = c.from_residual-in_err-count.ensures.1 in
    let short = c.min.ensures in record {
      answered = listed_room (of_sheet a.n a.sheet.now) _ _ c.in_ok-sheet.ensures.answer _ (told_no_count _ _ h ∙ rw (marks, short) at c.in_err-count.ensures);
      sheet_kept = refl;
      codes_after = search (rules, told_no_count _ _ h, afterwards_err);
      flags_after = search (rules, told_no_count _ _ h, afterwards_err);
    }

pub slice_bounds-listed-end : goal.slice_bounds-listed-end
slice_bounds-listed-end c = search (rules, codes_fit)

pub slice_bounds-listed-end-2 : goal.slice_bounds-listed-end-2
slice_bounds-listed-end-2 c = sym (length-take-le _ _ (slice_bounds-listed-end c))

pub flag-requires : goal.flag-requires
flag-requires c = search (rules, codes_fit, flags_fit)

pub returns : goal.returns
returns c =
    let a = c.args in
    let s = c.in_ok-sheet.sheet in
    let f = sheet_fn s.n.count s.phrases.now in
    let (same_n, same_phrases) = c.in_ok-sheet.ensures.given in
    let marks = listed_marks s.n.count s.n.few s.phrases.now _ _ s.own c.of_sheet.ensures c.primes-primes.ensures in
    let marked = rw (same_n, same_phrases) at marks in
    let short = c.min.ensures in
    let r : Listed = record { answer = done; count = c.in_ok-count.count } in
    let fit = c.in_ok-count.ensures in
    let fits = (codes_fit _ a.codes.now a.flags.now _ short _ fit refl).0 in
    let read = c.read.ensures.1 in
    let front = rw (← read) at (front_read _ a.codes.now c.in_ok-count.count (done_fits _ _ _ fit refl).1 fits) in
    let listed = front ∙ marks in
    let end = rw (← read) at (codes_fit _ a.codes.now a.flags.now _ short _ fit refl).1 in
    let room = rw (← (length-take-le _ _ end)) at (flags_fit _ a.codes.now a.flags.now _ short _ fit refl) in
    let kept = c.walk-kept.ensures f (of_sheet_lem s.n.count s.phrases.now) (reads s.n.count f _ listed) marks in record {
      answered = listed_room (of_sheet a.n a.sheet.now) _ _ c.in_ok-sheet.ensures.answer _ (rw (marked, short) at fit);
      sheet_kept = refl;
      codes_after = rw marked at (read ∙ written_done r _ a.codes.now refl fits);
      flags_after = rw (same_n, same_phrases) at (flags_done s.n.count f _ _ a.flags.now _ r s.n.few kept listed room refl c.flag.ensures);
    }
