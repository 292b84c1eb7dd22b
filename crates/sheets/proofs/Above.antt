-- Whether a phrase is above a sheet at a vector of scale 2, read off one code: that of the literals that reach the phrase's value there, or 1 where it is 0.
-- The phrase is above exactly when the code subsumes it and no phrase of the sheet. Subsuming is a mask and a comparison.
use mathlib.Core.Path.{◌≡◌, ap}
use mathlib.Core.Bool.{Bool, true, false}
use mathlib.Core.Logic.Iff
use mathlib.Core.Logic.{◌↔◌}
use mathlib.Core.List.{List, Memᴰ}
use Prim.Native.Nat.{ℕ, suc, ◌+◌, ◌-◌, ◌^◌, ◌≤◌, ◌<◌, max}
use native.Mathlib.Nat.{le_refl, lt_of_not-le}
use native.Mathlib.Numerals.{add-one}
use native.Mathlib.Omega.{arith}
use lib.Bits.{bit_and}
use lib.ListN.{length, get_or}
use Rattle.fuzzy.specs.Grade.{phrase_value, sheet_value}
use Rattle.fuzzy.specs.Function.{sheet_fn}
use Rattle.fuzzy.specs.Vector.{vector, above, first_from}
use Rattle.fuzzy.proofs.Order.{member_at}
use Rattle.fuzzy.proofs.Subsumes.{subsumes_and}
use Rattle.fuzzy.proofs.Sheet.{phrase_le, sheet_upper, sheet_reached}
use Rattle.fuzzy.proofs.Reach.{reach, reached}
use Rattle.fuzzy.proofs.Decide.{vector_grades, above_says, under_says}

module _ (n v : ℕ) where
  -- a phrase within the code of the literals at least t is at least t
  within : (t : ℕ) → t ≤ 2 → (q : ℕ) → q < 4 ^ n → (bit_and (reach 2 t (vector n v)) q ≡ q) ↔ (t ≤ phrase_value 2 n q (vector n v))
  within t l q b =
      Iff.trans (Iff.symm (subsumes_and n (reach 2 t (vector n v)) q b)) (Iff.symm (reached 2 n t (vector n v) (vector_grades n v) l q))

  module _ (p : ℕ) (below : p < 4 ^ n) where
    abbrev value : ℕ
    value = phrase_value 2 n p (vector n v)

    abbrev level : ℕ
    level = reach 2 (max 1 value) (vector n v)

    few : max 1 value ≤ 2
    few = omega (arith, phrase_le 2 n p (vector n v))

    -- where the phrase is 2 the code is that of the literals at least 2
    pub level_whole : bit_and (reach 2 2 (vector n v)) p ≡ p → reach 2 2 (vector n v) ≡ level
    level_whole e =
        let two : 2 ≡ max 1 value = omega (arith, (within 2 (le_refl 2) p below).0 e, phrase_le 2 n p (vector n v)) in
        ap (λ (t : ℕ). reach 2 t (vector n v)) two

    -- elsewhere that of the literals at least 1
    pub level_half : (bit_and (reach 2 2 (vector n v)) p ≡ p → ⊥) → reach 2 1 (vector n v) ≡ level
    level_half d =
        let less : value < 2 = lt_of_not-le (λ l. d ((within 2 (le_refl 2) p below).1 l)) in
        let one : 1 ≡ max 1 value = omega arith in
        ap (λ (t : ℕ). reach 2 t (vector n v)) one

    module _ (F : List ℕ) (c : ℕ) (is : c ≡ level) where
      masks : (q : ℕ) → q < 4 ^ n → (bit_and c q ≡ q) ↔ (max 1 value ≤ phrase_value 2 n q (vector n v))
      masks q b = rw is (within (max 1 value) few q b)

      -- a phrase that the code does not subsume is 0, and not above
      pub unmet : (bit_and c p ≡ p → ⊥) → above n (sheet_fn n F) p v ≡ false
      unmet d =
          let none : value < max 1 value = lt_of_not-le (λ l. d ((masks p below).1 l)) in
          (under_says n (sheet_fn n F) p v).1 (omega arith)

      -- where the code subsumes a phrase of the sheet, the phrase is not above
      pub covered : (q : ℕ) → Memᴰ q F → q < 4 ^ n → bit_and c q ≡ q → above n (sheet_fn n F) p v ≡ false
      covered q m b e = (under_says n (sheet_fn n F) p v).1 (omega (arith, (masks q b).0 e, sheet_upper 2 n (vector n v) F q m))

      -- where it subsumes the phrase and none of the sheet, the phrase is above
      pub uncovered : ((q : ℕ) → Memᴰ q F → q < 4 ^ n) → bit_and c p ≡ p
          → ((k : ℕ) → k < length F → bit_and c (get_or F k 0) ≡ get_or F k 0 → ⊥) → above n (sheet_fn n F) p v ≡ true
      uncovered codes met none = (above_says n (sheet_fn n F) p v).1 (lt_of_not-le never)
        where
          never : value ≤ sheet_value 2 n F (vector n v) → ⊥
          never l =
              let (q, m, r) = sheet_reached 2 n (vector n v) F (max 1 value) (omega arith) (omega (arith, (masks p below).0 met)) in
              let (k, l', e) = member_at m in
              none k l' (rw e ((masks q (codes q m)).1 r))

-- a number that passes is the first of those left
pub scan_stop : (t : ℕ → Bool) (v m : ℕ) → v < m → t v ≡ true → first_from t v (m - v) ≡ v
unfolding first_from
scan_stop t v m l e = let one : m - v ≡ suc (m - (v + 1)) = omega arith in rw (one, e)

-- past a number that does not pass one less is left
pub scan_next : (t : ℕ → Bool) (v m : ℕ) → v < m → t v ≡ false → first_from t v (m - v) ≡ first_from t (v + 1) (m - (v + 1))
unfolding first_from
scan_next t v m l e = let one : m - v ≡ suc (m - (v + 1)) = omega arith in rw (one, e, add-one v)

-- past the last nothing is left
pub scan_end : (t : ℕ → Bool) (v m : ℕ) → v ≡ m → first_from t v (m - v) ≡ m
unfolding first_from
scan_end t v m e = let none : m - v ≡ 0 = omega arith in rw none e
