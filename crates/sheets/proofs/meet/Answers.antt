-- `meet` meets its promise: a refusal of the sheets, and what `publish` gives of the marks of the smaller.
use Rattle.std.proofs.Common.{rules}
use Rattle.sheets.proofs.Lists.{met_marks}
use Rattle.sheets.proofs.Promise.{pair_published}
use Rattle.sheets.proofs.Published.{told_no_count, listed_err, afterwards_err}
use Rattle.sheets.proofs.meet.Goals as goal

pub returns-in_err-first : goal.returns-in_err-first
returns-in_err-first c = search (rules, told_no_count _ _ c.from_residual.ensures.1, listed_err, afterwards_err)

pub returns : goal.returns
returns c =
    let first = c.in_ok-first.first in
    let second = c.in_ok-first.second in
    let (same_n, same_first, same_n₂, same_second) = c.in_ok-first.ensures.given in
    let marks = met_marks first.n.count first.n.few first.phrases.now second.phrases.now _ _ first.own (rw (same_n₂, ← same_n) at second.own)
    c.primes.ensures _ _ c.of_sheet.ensures c.of_sheet-2.ensures c.both-within.ensures in
    pair_published _ _ _ _ _ c.in_ok-first.ensures.answer _ _ _ (rw (same_n, same_first, same_second) at marks) c.publish.ensures.answer c.publish.ensures.buffer
