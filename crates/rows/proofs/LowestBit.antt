-- The first code that a row marks is that of its lowest one, and clearing that one leaves the others; so a loop writes them one after the other.
-- `x & (x - 1)` leaves out the literal at the trailing zeros' count (`cleared`), which is the first that the choice finds (`select_first`).
use mathlib.Core.Path.{◌≡◌, refl, sym, ap, ◌∙◌}
use mathlib.Core.Bool.{Bool, true, false}
use mathlib.Core.Logic.{◌⊎◌, inl, inr, ◌≢◌}
use mathlib.Core.List.{List, ◌∷◌}
use Prim.Native.Nat.{ℕ, zero, suc, ◌+◌, ◌-◌, ◌*◌, ◌/◌, ◌%◌, ◌^◌, ◌≤◌, ◌<◌, min}
use native.Mathlib.Nat.{eq-or-lt_of_le}
use native.Mathlib.Decide.{ℕ_discrete}
use native.Mathlib.Numerals.{add-one}
use native.Mathlib.Omega.{arith}
use lib.Bits.{bit_and, and_step, and_self}
use lib.Count.{ones, count_trailing_zeros, under}
use lib.Dec.{eqb}
use lib.ListN.{length, set}
use lib.Seq.{sets}
use mir.Syntax.{w64}
use Rattle.std.proofs.lemmas.Nat.Bits.{bit_at-trailing_zeros}
use Rattle.fuzzy.specs.Phrase.{has, less}
use Rattle.fuzzy.specs.Primes.{select}
use Rattle.fuzzy.proofs.Literals.{less_has, less_others}
use Rattle.rows.proofs.Selected.{select_run, row_ones}
use Rattle.rows.specs.Read.{row_marks}

-- `x & (x - 1)` is x without its lowest one
cleared : (d x : ℕ) → 0 < x → x < 2 ^ d → bit_and x (x - 1) ≡ less x (count_trailing_zeros d x)
unfolding count_trailing_zeros
cleared zero x p l = absurd (omega arith)
cleared (suc d) x p l = at (x % 2) refl (λ a. cleared d (x / 2) (omega arith) (omega arith))
  where
    at : (r : ℕ) → x % 2 ≡ r → (x % 2 ≡ 0 → bit_and (x / 2) (x / 2 - 1) ≡ less (x / 2) (count_trailing_zeros d (x / 2)))
        → bit_and x (x - 1) ≡ less x (under r (count_trailing_zeros d (x / 2)))
    at zero e rest =
        let z = count_trailing_zeros d (x / 2) in
        let half : (x - 1) / 2 ≡ x / 2 - 1 = omega arith in
        let twice : (x / 2 - 2 ^ z) * 2 + min 0 ((x - 1) % 2) ≡ x - 2 ^ suc z = omega arith in
        and_step x (x - 1) ∙ rw (half, rest e, e) twice
    at (suc zero) e rest =
        let half : (x - 1) / 2 ≡ x / 2 = omega arith in
        let even : (x - 1) % 2 ≡ 0 = omega arith in
        and_step x (x - 1) ∙ rw (half, even, and_self (x / 2)) (omega arith)
    at (suc (suc r)) e rest = absurd (omega arith)

-- a choice whose first is z is z and then what a test chooses that says the same past z, and no up to it
select_first : (t u : ℕ → Bool) (m k z : ℕ) → k ≤ z → z < k + m → ((j : ℕ) → k ≤ j → j < z → t j ≡ false) → t z ≡ true
    → ((j : ℕ) → k ≤ j → j ≤ z → u j ≡ false) → ((j : ℕ) → z < j → t j ≡ u j) → select t k m ≡ z ∷ select u k m
unfolding select
select_first t u zero k z a b before at_z none same = absurd (omega arith)
select_first t u (suc m) k z a b before at_z none same =
    at (eq-or-lt_of_le a)
    (λ l. select_first t u m (suc k) z l (omega arith) (λ j c d. before j (omega arith) d) at_z (λ j c d. none j (omega arith) d) same)
  where
    at : (k ≡ z) ⊎ (k < z) → (k < z → select t (suc k) m ≡ z ∷ select u (suc k) m) → select t k (suc m) ≡ z ∷ select u k (suc m)
    at (inl e) ih =
        rw (none k (omega arith) (omega arith), ap t e ∙ at_z, select_run t u m (suc k) (λ j c d. same j (omega arith)))
        (ap (λ (x : ℕ). x ∷ select u (suc k) m) e)
    at (inr l) ih = rw (none k (omega arith) (omega arith), before k (omega arith) l) (ih l)

module _ (x base : ℕ) (some_one : 0 < x) (fits : x < 2 ^ 64) where
  z : ℕ
  z = count_trailing_zeros 64 x

  low : (z < 64) × (has x z ≡ 1) × ((j : ℕ) → j < z → has x j ≡ 0)
  unfolding has z
  low = bit_at-trailing_zeros w64 x some_one fits

  -- the first code that a row marks, and the others
  pub row_first : row_marks x base ≡ (base + count_trailing_zeros 64 x) ∷ row_marks (bit_and x (x - 1)) base
  unfolding row_marks z
  row_first =
      select_first (λ c. eqb (has x (c - base)) 1) (λ c. eqb (has (bit_and x (x - 1)) (c - base)) 1) 64 base (base + z)
      (omega arith) (omega (arith, low.0))
      (λ j a b. ap (λ (y : ℕ). eqb y 1) (low.2 (j - base) (omega arith)))
      (let e : base + z - base ≡ z = omega arith in ap (λ (y : ℕ). eqb y 1) (ap (has x) e ∙ low.1))
      (λ j a b. ap (λ (y : ℕ). eqb y 1) (up_to (j - base) (ℕ_discrete (j - base) z) (omega arith)))
      (λ j a. ap (λ (y : ℕ). eqb y 1) (sym (other (j - base) (λ e. omega arith))))
    where
      other : (j : ℕ) → j ≢ z → has (bit_and x (x - 1)) j ≡ has x j
      other j d = rw (cleared 64 x some_one fits) (less_others x z j low.1 d)

      up_to : (j : ℕ) → Dec (j ≡ z) → j ≤ z → has (bit_and x (x - 1)) j ≡ 0
      up_to j (yes e) l = rw (cleared 64 x some_one fits, e) (less_has x z low.1)
      up_to j (no d) l = other j d ∙ low.2 j (omega arith)

  -- one turn of writing them
  pub write_turn : (codes : List ℕ) (next : ℕ)
      → sets (set codes next (base + count_trailing_zeros 64 x)) (next + 1) (row_marks (bit_and x (x - 1)) base) ≡ sets codes next (row_marks x base)
  write_turn codes next = rw (row_first, add-one next)

  -- after which one fewer is left
  pub write_less : length (row_marks x base) ≡ suc (length (row_marks (bit_and x (x - 1)) base))
  write_less = ap length row_first

-- a row that marks something is not 0
pub row_some : (x base : ℕ) → 0 < length (row_marks x base) → 0 < x
unfolding ones
row_some zero base l = absurd (omega (arith, row_ones 0 base (omega arith)))
row_some (suc x) base l = omega arith
