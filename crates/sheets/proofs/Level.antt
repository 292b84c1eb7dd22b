-- The codes of the literals at least 1 and at least 2 at a vector of scale 2, and what they say of a phrase and a sheet there.
-- The first code is built one variable after the other; the second is the first with its pairs taken out, since exchanging the digits 0 and 3 of a code
-- without absent variables takes its pairs out. A phrase is above a sheet exactly when the literals that reach its value subsume it and no phrase of the sheet.
use mathlib.Core.Path.{◌≡◌, refl, sym, ap, ◌∙◌}
use mathlib.Core.Bool.{true}
use mathlib.Core.Logic.{◌⊎◌, inl, inr, ⊎_elim}
use Prim.Native.Nat.{ℕ, zero, suc, ◌+◌, ◌-◌, ◌*◌, ◌/◌, ◌%◌, ◌^◌, ◌≤◌, ◌<◌, min}
use native.Mathlib.Nat.{le_trans, le_of_eq, lt_of_lt_of_le, min-zero, zero-max, max-eq_left, add_comm, pow-suc, pow-le-pow_right, div-div-eq-div-mul}
use native.Mathlib.Decide.{dec_lt, ℕ_discrete}
use native.Mathlib.Numerals.{add-one}
use native.Mathlib.Omega.{arith}
use lib.Bits.{bit_and, bit_or, bit_xor, and_le_r, or_lt, xor_lt}
use lib.Dec.{eqb}
use lib.ListN.{length-map}
use Rattle.std.proofs.lemmas.Bool.{agree_below_at, eqb-true}
use Rattle.fuzzy.specs.Phrase.{digits, has}
use Rattle.fuzzy.specs.Vector.{vector}
use Rattle.fuzzy.proofs.Digits.{number, digits_length}
use Rattle.fuzzy.proofs.Literals.{has_lt, has_and, has_or, has_zero, has_next, has_high, same_literals}
use Rattle.rows.proofs.Shift.{xor_has}
use Rattle.fuzzy.proofs.Decide.{vector_grades}
use Rattle.fuzzy.proofs.Reach.{reach_digit, reach, reach_lt}
use Rattle.fuzzy.proofs.Within.{flip, exchange_flip}
use Rattle.fuzzy.proofs.Closure.{exchange_reach}
use Rattle.fuzzy.proofs.Fast.{one_literal_reached}

-- one variable more
reach_turn : (i v : ℕ) → reach 2 1 (vector i v) + reach_digit 2 1 (v / 3 ^ i % 3) * 4 ^ i ≡ reach 2 1 (vector (i + 1) v)
unfolding reach vector digits number
reach_turn i v = rw (add-one i, length-map (digits 3 i v) (reach_digit 2 1), digits_length 3 (omega arith) i v) (add_comm _ _)

-- the next digit of a number
pub next_digit : (v i : ℕ) → v / 3 ^ i / 3 ≡ v / 3 ^ (i + 1)
next_digit v i = rw (add-one i, pow-suc 3 i) (div-div-eq-div-mul v (3 ^ i) 3)

-- the literals ~x of six variables
abbrev mask : ℕ
mask = 1365

mask_even : (j : ℕ) → j < 6 → has mask (2 * j) ≡ 1
unfolding has
mask_even j l = eqb-true _ _ (agree_below_at (λ j. eqb (has mask (2 * j)) 1) (λ j. true) 6 j refl l)

mask_odd : (j : ℕ) → has mask (suc (2 * j)) ≡ 0
unfolding has
mask_odd j = at (dec_lt j 6)
  where
    at : Dec (j < 6) → has mask (suc (2 * j)) ≡ 0
    at (yes l) = eqb-true _ _ (agree_below_at (λ j. eqb (has mask (suc (2 * j))) 0) (λ j. true) 6 j refl l)
    at (no d) = has_high 6 mask (suc (2 * j)) (omega arith) (omega arith)

-- a number is even or odd
pub parity : (k : ℕ) → ((j : ℕ) × (k ≡ 2 * j)) ⊎ ((j : ℕ) × (k ≡ suc (2 * j)))
parity k = at (ℕ_discrete (k % 2) 0)
  where
    at : Dec (k % 2 ≡ 0) → ((j : ℕ) × (k ≡ 2 * j)) ⊎ ((j : ℕ) × (k ≡ suc (2 * j)))
    at (yes e) = inl (k / 2, omega arith)
    at (no d) = inr (k / 2, omega arith)

flip_even : (j : ℕ) → flip (2 * j) ≡ suc (2 * j)
unfolding flip
flip_even j = omega arith

flip_odd : (j : ℕ) → flip (suc (2 * j)) ≡ 2 * j
unfolding flip
flip_odd j = omega arith

module _ (c : ℕ) (six : c < 4 ^ 6) where
  -- the pairs of a code, at their ~x
  abbrev pub pairs : ℕ
  pairs = bit_and (bit_and c (c / 2)) mask

  -- where both literals of a variable are there, the pairs have its ~x
  pub pairs_even : (j : ℕ) → has pairs (2 * j) ≡ min (has c (2 * j)) (has c (suc (2 * j)))
  pairs_even j = rw (has_and (bit_and c (c / 2)) mask (2 * j), has_and c (c / 2) (2 * j), ← (has_next c (2 * j))) (at (dec_lt j 6))
    where
      at : Dec (j < 6) → min (min (has c (2 * j)) (has c (suc (2 * j)))) (has mask (2 * j)) ≡ min (has c (2 * j)) (has c (suc (2 * j)))
      at (yes l) = omega (arith, mask_even j l, has_lt c (2 * j))
      at (no d) = omega (arith, has_high 6 c (2 * j) six (omega arith))

  pairs_odd : (j : ℕ) → has pairs (suc (2 * j)) ≡ 0
  pairs_odd j = rw (has_and (bit_and c (c / 2)) mask (suc (2 * j)), mask_odd j) (min-zero _)

  -- twice a code has its literals one place higher
  double_next : (p k : ℕ) → has (p + p) (suc k) ≡ has p k
  double_next p k = let e : (p + p) / 2 ≡ p = omega arith in has_next (p + p) k ∙ ap (λ (x : ℕ). has x k) e

  -- both literals of the pairs are the literals whose complement is there too
  both_even : (j : ℕ) → has (bit_or pairs (pairs + pairs)) (2 * j) ≡ min (has c (2 * j)) (has c (suc (2 * j)))
  both_even j = rw (has_or pairs (pairs + pairs) (2 * j), pairs_even j) (max-eq_left (le_trans (le_of_eq (none j)) (omega arith)))
    where
      none : (j : ℕ) → has (pairs + pairs) (2 * j) ≡ 0
      none zero = has_zero (pairs + pairs) ∙ omega arith
      none (suc j) =
          let e : 2 * suc j ≡ suc (suc (2 * j)) = omega arith in
          ap (has (pairs + pairs)) e ∙ double_next pairs (suc (2 * j)) ∙ pairs_odd j

  both_odd : (j : ℕ) → has (bit_or pairs (pairs + pairs)) (suc (2 * j)) ≡ min (has c (2 * j)) (has c (suc (2 * j)))
  both_odd j = rw (has_or pairs (pairs + pairs) (suc (2 * j)), pairs_odd j, double_next pairs (2 * j), pairs_even j) (zero-max _)

  -- so without them a code has the literals whose complement it lacks
  pub unpaired_has : (k : ℕ) → has (bit_xor c (bit_or pairs (pairs + pairs))) k ≡ has c k - has c (flip k)
  unpaired_has k = rw (xor_has c (bit_or pairs (pairs + pairs)) k) (at (parity k))
    where
      at : ((j : ℕ) × (k ≡ 2 * j)) ⊎ ((j : ℕ) × (k ≡ suc (2 * j))) → (has c k + has (bit_or pairs (pairs + pairs)) k) % 2 ≡ has c k - has c (flip k)
      at (inl (j, e)) = rw (e, flip_even j, both_even j) (omega (arith, has_lt c (2 * j), has_lt c (suc (2 * j))))
      at (inr (j, e)) = rw (e, flip_odd j, both_odd j) (omega (arith, has_lt c (2 * j), has_lt c (suc (2 * j))))

  -- the pairs twice are a code of six variables
  pub pairs_fit : pairs + pairs < 4 ^ 6
  pairs_fit = omega (arith, and_le_r (bit_and c (c / 2)) mask)

  -- and so is the code without them
  pub unpaired_lt : bit_xor c (bit_or pairs (pairs + pairs)) < 4 ^ 6
  unpaired_lt = xor_lt 12 c (bit_or pairs (pairs + pairs)) six (or_lt 12 pairs (pairs + pairs) (omega (arith, pairs_fit)) pairs_fit)

module _ (n v : ℕ) (few : n ≤ 6) where
  abbrev half : ℕ
  half = reach 2 1 (vector n v)

  abbrev whole : ℕ
  whole = reach 2 2 (vector n v)

  -- the codes of a vector are codes of six variables
  pub reach_six : (t : ℕ) → reach 2 t (vector n v) < 4 ^ 6
  reach_six t = lt_of_lt_of_le (reach_lt 2 n t (vector n v) (vector_grades n v).0) (pow-le-pow_right {n = 4} (omega arith) few)

  -- of two complementary literals one is at least 1
  one_of_two : (k : ℕ) → k < 2 * n → 1 ≤ has half k + has half (flip k)
  one_of_two k l = at (parity k)
    where
      one : (j : ℕ) → j < n → 1 ≤ has half (2 * j) + has half (suc (2 * j))
      one j h = ⊎_elim (λ (e : has half (2 * j) ≡ 1). omega arith) (λ (e : has half (suc (2 * j)) ≡ 1). omega arith)
          (one_literal_reached 2 n 1 (vector n v) (vector_grades n v) (omega arith) j h)

      at : ((j : ℕ) × (k ≡ 2 * j)) ⊎ ((j : ℕ) × (k ≡ suc (2 * j))) → 1 ≤ has half k + has half (flip k)
      at (inl (j, e)) = rw (e, flip_even j) (one j (omega arith))
      at (inr (j, e)) = rw (e, flip_odd j) (omega (arith, one j (omega arith)))

  -- a code with just the literals of the first whose complement it lacks is the second
  pub unpaired_whole : (c : ℕ) → c < 4 ^ 6 → ((k : ℕ) → has c k ≡ has half k - has half (flip k)) → c ≡ whole
  unpaired_whole c six h = same_literals 6 c whole six (reach_six 2) (λ k l. at k (dec_lt k (2 * n)))
    where
      below : (k : ℕ) → k < 2 * n → has whole k ≡ 1 - has half (flip k)
      below k l = ap (λ (x : ℕ). has x k) (sym (exchange_reach 2 1 (omega arith) (omega arith) n (vector n v) (vector_grades n v))) ∙ exchange_flip n half k l

      at : (k : ℕ) → Dec (k < 2 * n) → has c k ≡ has whole k
      at k (yes l) = omega (arith, h k, below k l, one_of_two k l, has_lt half k, has_lt half (flip k))
      at k (no d) =
          omega (
            arith,
            h k,
            has_high n half k (reach_lt 2 n 1 (vector n v) (vector_grades n v).0) (omega arith),
            has_high n whole k (reach_lt 2 n 2 (vector n v) (vector_grades n v).0) (omega arith),
          )

  -- so it is of whatever is that first code
  pub whole_of : (h c : ℕ) → h ≡ half → c < 4 ^ 6 → ((k : ℕ) → has c k ≡ has h k - has h (flip k)) → c ≡ whole
  whole_of h c e six has_c = unpaired_whole c six (λ k. rw (← e) (has_c k))

-- one turn of building the first code
pub reach_step : (i v code digit place rest : ℕ) → rest ≡ v / 3 ^ i → place ≡ 4 ^ i → code ≡ reach 2 1 (vector i v) → digit ≡ reach_digit 2 1 (rest % 3)
    → code + digit * place ≡ reach 2 1 (vector (i + 1) v)
reach_step i v code digit place rest er ep ec ed = rw (ed, er, ep, ec) (reach_turn i v)

-- which fits while there are at most six variables
pub reach_room : (i v : ℕ) → i < 6 → reach 2 1 (vector (i + 1) v) < 4096
reach_room i v l =
    lt_of_lt_of_le (reach_lt 2 (i + 1) 1 (vector (i + 1) v) (vector_grades (i + 1) v).0) (pow-le-pow_right {n = 4} (omega arith) {j = 6} (omega arith))
