-- A phrase's set of pairs and its points: the set by a computed test of all 4,096 codes, the points digit by digit, from masks that are computed.
use mathlib.Core.Path.{◌≡◌, refl, sym, ap, ◌∙◌}
use mathlib.Core.Bool.{true}
use mathlib.Core.Logic.{◌↔◌, ◌≢◌}
use mathlib.Core.List.{List, [], ◌∷◌}
use Prim.Native.Nat.{ℕ, suc, ◌+◌, ◌*◌, ◌/◌, ◌%◌, ◌^◌, ◌≤◌, ◌<◌}
use native.Mathlib.Decide.{ℕ_discrete}
use native.Mathlib.Omega.{arith}
use lib.Bits.{bit_and, bit_or, bit_xor, differ, and_mask}
use lib.Dec.{eqb}
use lib.ListN.{get_or}
use Rattle.fuzzy.specs.Phrase.{has}
use Rattle.fuzzy.proofs.Digits.{four_pow}
use Rattle.fuzzy.proofs.Literals.{has_lt, has_and, has_xor, digit}
use Rattle.fuzzy.proofs.Search.{eqb_eq}
use Rattle.std.proofs.lemmas.Bool.{agree_below, agree_below_at}
use Rattle.rows.proofs.Shift.{full_has}
use Rattle.sheets.specs.Cell.{build, pairs_of, AgreesAt, Along}

-- a code's pairs, drawn together
abbrev pub drawn : ℕ → ℕ
drawn p =
    let a = bit_and (bit_and p (p / 2)) 1365 in
    let b = bit_and (bit_or a (a / 2)) 819 in
    let c = bit_and (bit_or b (b / 4)) 3855 in
    bit_and (bit_or c (c / 16)) 63

all_drawn : agree_below (λ p. eqb (drawn p) (pairs_of p)) (λ p. true) 4096 ≡ true
unfolding pairs_of build has
all_drawn = refl

-- a code's pairs, drawn together, are the set of its pairs
pub pairs_drawn : (p : ℕ) → p < 4096 → drawn p ≡ pairs_of p
pairs_drawn p l = eqb_eq _ _ (agree_below_at (λ p. eqb (drawn p) (pairs_of p)) (λ p. true) 4096 p all_drawn l)

-- the points that have bit j, for j from 0 to 5
abbrev masks : List ℕ
masks = 12297829382473034410 ∷ 14757395258967641292 ∷ 17361641481138401520 ∷ 18374966859414961920 ∷ 18446462603027742720 ∷ 18446744069414584320 ∷ []

all_masks : agree_below (λ j. agree_below (λ x. eqb (has (get_or masks j 0) x) (has x j)) (λ x. true) 64) (λ j. true) 6 ≡ true
unfolding has
all_masks = refl

masks_has : (j x : ℕ) → j < 6 → x < 64 → has (get_or masks j 0) x ≡ has x j
masks_has j x lj lx =
    eqb_eq _ _ (agree_below_at (λ x. eqb (has (get_or masks j 0) x) (has x j)) (λ x. true) 64 x
    (agree_below_at (λ j. agree_below (λ x. eqb (has (get_or masks j 0) x) (has x j)) (λ x. true) 64) (λ j. true) 6 j all_masks lj) lx)

-- every bit agrees with no literal
pub side_none : (digit plain : ℕ) → digit ≡ 0 → (x : ℕ) → x < 64 → (has 18446744073709551615 x ≡ 1) ↔ AgreesAt digit (has plain x)
side_none digit plain z x l = (λ e. (omega (arith, has_lt plain x), omega arith), λ h. full_has x l)

-- with ~x, and with both, a bit agrees where it is not set
pub side_other : (digit plain : ℕ) → digit < 4 → digit ≢ 0 → digit ≢ 2 → (x : ℕ) → x < 64
    → (has (bit_xor plain 18446744073709551615) x ≡ 1) ↔ AgreesAt digit (has plain x)
side_other digit plain lt no_none no_plain x l = rw (has_xor plain 18446744073709551615 x, full_has x l) (at (ℕ_discrete (has plain x) 0))
  where
    ones : {n : ℕ} → n ≡ 1 → n ≡ 0 → ⊥
    ones e z = omega arith

    at : Dec (has plain x ≡ 0) → (differ (has plain x) 1 ≡ 1) ↔ AgreesAt digit (has plain x)
    at (yes z) = rw z (λ e. (omega arith, omega arith), λ h. refl)
    at (no d) = let o : has plain x ≡ 1 = omega (arith, has_lt plain x) in rw o (λ e. absurd (ones e refl), λ h. absurd (omega (arith, h.0)))

-- before the first digit every point agrees
pub along_none : (p x : ℕ) → x < 64 → (has 18446744073709551615 x ≡ 1) ↔ Along 0 p x
along_none p x l = (λ e j lj. absurd (omega arith), λ h. full_has x l)

-- a digit more
pub along_more : (p j points side x : ℕ) → j < 6 → x < 64 → (has points x ≡ 1) ↔ Along j p x
    → (has side x ≡ 1) ↔ AgreesAt (bit_and (p / 2 ^ (2 * j)) 3) (has (get_or masks j 0) x)
    → (has (bit_and points side) x ≡ 1) ↔ Along (j + 1) p x
along_more p j points side x lj lx before here = (
  λ e k lk. to (before.0 (omega (arith, has_and points side x, has_lt points x))) (here.0 (omega (arith, has_and points side x, has_lt side x))) k lk (ℕ_discrete k j),
  λ h. omega (arith, has_and points side x, before.1 (λ k lk. h k (omega arith)), here.1 (from (h j (omega arith)))),
)
  where
    is : bit_and (p / 2 ^ (2 * j)) 3 ≡ has p (2 * j) + 2 * has p (suc (2 * j))
    is = and_mask (p / 2 ^ (2 * j)) 2 ∙ ap (λ (b : ℕ). p / b % 4) (sym (four_pow j)) ∙ digit p j

    from : (has p (2 * j) + has x j ≤ 1) × (has p (suc (2 * j)) ≤ has p (2 * j) + has x j) → AgreesAt (bit_and (p / 2 ^ (2 * j)) 3) (has (get_or masks j 0) x)
    from (a, b) = rw (masks_has j x lj lx) (omega (arith, is, has_lt p (2 * j)), omega (arith, is, has_lt p (2 * j)))

    to : Along j p x → AgreesAt (bit_and (p / 2 ^ (2 * j)) 3) (has (get_or masks j 0) x) → (k : ℕ) → k < j + 1 → Dec (k ≡ j)
        → (has p (2 * k) + has x k ≤ 1) × (has p (suc (2 * k)) ≤ has p (2 * k) + has x k)
    to all (a, b) k lk (yes e) =
        let a' = rw (masks_has j x lj lx) at a in
        let b' = rw (masks_has j x lj lx) at b in
        rw e (omega (arith, is, has_lt p (2 * j), a'), omega (arith, is, has_lt p (2 * j), b'))
    to all h k lk (no d) = all k (omega arith)
