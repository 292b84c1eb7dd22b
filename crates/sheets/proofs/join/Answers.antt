-- `join` meets its promise: a refusal of the sheets, and what `publish` gives of the marks of the larger.
use Rattle.std.proofs.Common.{rules}
use Rattle.sheets.proofs.Lists.{joined_marks}
use Rattle.sheets.proofs.Promise.{pair_published}
use Rattle.sheets.proofs.Published.{told_no_count, listed_err, afterwards_err}
use Rattle.sheets.proofs.join.Goals as goal

pub returns-in_err-first : goal.returns-in_err-first
returns-in_err-first c = search (rules, told_no_count _ _ c.from_residual.ensures.1, listed_err, afterwards_err)

pub returns : goal.returns
returns c =
    let first = c.in_ok-first.first in
    let second = c.in_ok-first.second in
    let (same_n, same_first, same_n₂, same_second) = c.in_ok-first.ensures.given in
    let marks = joined_marks first.n.count first.n.few first.phrases.now second.phrases.now _ _ first.own (rw (same_n₂, ← same_n) at second.own)
    c.primes.ensures c.of_both_sheets-within.ensures.together in
    pair_published _ _ _ _ _ c.in_ok-first.ensures.answer _ _ _ (rw (same_n, same_first, same_second) at marks) c.publish.ensures.answer c.publish.ensures.buffer
