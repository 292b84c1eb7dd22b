-- The outer loop's invariant: the lowest vector is the first of those left from v on. The inner loop's: the code subsumes no phrase of the sheet
-- before the one at hand.
use mathlib.Core.Path.{◌≡◌}
use Prim.Native.Nat.{ℕ, ◌-◌, ◌<◌}
use lib.Bits.{bit_and}
use lib.ListN.{get_or}
use Rattle.fuzzy.specs.Function.{sheet_fn}
use Rattle.fuzzy.specs.Vector.{above, first_from, lowest}
use Rattle.sheets.proofs.vector.lowest.Given as goal

abbrev pub invariant-loop-q : goal.invariant-loop-q
invariant-loop-q l = let F = l.sheet.phrases.now in (k : ℕ) → k < l.q-index → bit_and l.level (get_or F k 0) ≡ get_or F k 0 → ⊥

abbrev pub invariant-vectors : goal.invariant-vectors
invariant-vectors l =
    let n = l.sheet.n.count in
    let f = sheet_fn n l.sheet.phrases.now in
    lowest n f l.phrase ≡ first_from (above n f l.phrase) l.v (l.v-end - l.v)
