-- The number of literals is the number of ones in the code, and the literals of a phrase determine its code.
-- Literal k + 1 of a code is literal k of its half (`has_next`), so the laws are inductions on k, or on how many literals there are.
-- `digit` ties a variable's digit to its two literals; `bit_or` and `bit_and` work on each literal.
use mathlib.Core.Path.{◌≡◌, refl, sym, ap, ◌∙◌}
use mathlib.Core.Logic.{◌≢◌}
use Prim.Native.Nat.{ℕ, zero, suc, ◌+◌, ◌-◌, ◌*◌, ◌/◌, ◌%◌, ◌^◌, ◌≤◌, ◌<◌, min, max}
use native.Mathlib.Nat.{lt_of_lt_of_le, mod-lt, mod-one, div-one, mod-eq_of_lt, sub_self, div_self, div-eq_of_lt, le-div_iff_mul-le, div-div-eq-div-mul, one-le-pow, pow-suc, pow-succ'}
use native.Mathlib.Omega.{arith}
use lib.Arith.{digits_mod, mod-mul}
use lib.Bits.{bit_and, bit_or, bit_xor, differ, xor_step, xor_shr, and_step, or_step, and_shr, or_shr}
use lib.Count.{ones, ones_step, ones_cat}
use lib.Pow.{pow_pos, pow_mono, field, mod-mod-pow}
use Rattle.fuzzy.specs.Phrase.{digits, has, less, literals, literals_of}
use Rattle.fuzzy.proofs.Digits.{four_pow}

-- a literal is there or not
pub has_lt : (p k : ℕ) → has p k < 2
unfolding has
has_lt p k = mod-lt (p / 2 ^ k) (omega arith)

-- literal 0 of a code is its remainder by 2
pub has_zero : (p : ℕ) → has p 0 ≡ p % 2
unfolding has
has_zero p = rw (div-one p)

-- literal k + 1 of a code is literal k of its half
pub has_next : (p k : ℕ) → has p (suc k) ≡ has (p / 2) k
unfolding has
has_next p k = rw (pow-succ' 2 k, div-div-eq-div-mul p 2 (2 ^ k))

-- the digit that is worth 4 ^ j is made of the two literals of its variable
pub digit : (p j : ℕ) → p / 4 ^ j % 4 ≡ has p (2 * j) + 2 * has p (suc (2 * j))
unfolding has
digit p j = rw (four_pow j, pow-suc 2 (2 * j), ← div-div-eq-div-mul p (2 ^ (2 * j)) 2) (omega arith)

-- the digit's remainder by 2 is the literal ~x
pub digit_complement : (p j : ℕ) → p / 4 ^ j % 4 % 2 ≡ has p (2 * j)
digit_complement p j = omega (arith, digit p j, has_lt p (2 * j))

-- the digit's half is the literal x
pub digit_plain : (p j : ℕ) → p / 4 ^ j % 4 / 2 ≡ has p (suc (2 * j))
digit_plain p j = omega (arith, digit p j, has_lt p (2 * j))

-- an operation on codes that works bit by bit works on each literal
module _ (op f : ℕ → ℕ → ℕ) (shr : (p q k : ℕ) → op p q / 2 ^ k ≡ op (p / 2 ^ k) (q / 2 ^ k))
    (step : (p q : ℕ) → op p q ≡ op (p / 2) (q / 2) * 2 + f (p % 2) (q % 2)) (bit : (x y : ℕ) → x < 2 → y < 2 → f x y < 2) where
  has_op : (p q k : ℕ) → has (op p q) k ≡ f (has p k) (has q k)
  unfolding has
  has_op p q k =
      rw (shr p q k, step (p / 2 ^ k) (q / 2 ^ k)) (digits_mod (op (p / 2 ^ k / 2) (q / 2 ^ k / 2)) (bit _ _ (has_lt p k) (has_lt q k)))

-- `bit_or` has the literals of both
pub has_or : (p q k : ℕ) → has (bit_or p q) k ≡ max (has p k) (has q k)
has_or = has_op bit_or max or_shr or_step (λ x y a b. omega arith)

-- `bit_and` has the literals that both have
pub has_and : (p q k : ℕ) → has (bit_and p q) k ≡ min (has p k) (has q k)
has_and = has_op bit_and min and_shr and_step (λ x y a b. omega arith)

-- `bit_xor` has the literals that one of both has
pub has_xor : (p q k : ℕ) → has (bit_xor p q) k ≡ differ (has p k) (has q k)
has_xor = has_op bit_xor differ xor_shr xor_step differ_lt
  where
    differ_lt : (x y : ℕ) → x < 2 → y < 2 → differ x y < 2
    differ_lt zero y a b = b
    differ_lt (suc x) zero a b = a
    differ_lt (suc zero) (suc y) a b = omega arith
    differ_lt (suc (suc x)) (suc y) a b = absurd (omega arith)

-- a code below 2 ^ k has no literal k
pub has_none : (p k : ℕ) → p < 2 ^ k → has p k ≡ 0
unfolding has
has_none p k l = rw (div-eq_of_lt l)

-- a code with literal k is at least 2 ^ k
pub has_le : (p k : ℕ) → has p k ≡ 1 → 2 ^ k ≤ p
unfolding has
has_le p k h = let l = (le-div_iff_mul-le {x = 1} {y = p} (pow_pos k)).0 (omega arith) in omega arith

-- a code of one literal has that literal
pub has_itself : (k : ℕ) → has (2 ^ k) k ≡ 1
unfolding has
has_itself k = rw (div_self (pow_pos k))

-- leaving literal k + 1 out of a code leaves literal k out of its half
less_half : (p k : ℕ) → less p (suc k) / 2 ≡ less (p / 2) k
less_half p k = omega arith

-- leaving literal k out leaves it out
pub less_has : (p k : ℕ) → has p k ≡ 1 → has (less p k) k ≡ 0
less_has p zero h = omega (arith, has_zero p, has_zero (less p zero))
less_has p (suc k) h = rw (has_next, less_half) (less_has (p / 2) k (rw has_next at h))

-- leaving literal k out leaves the others
pub less_others : (p k j : ℕ) → has p k ≡ 1 → j ≢ k → has (less p k) j ≡ has p j
less_others p zero zero h d = absurd (d refl)
less_others p zero (suc j) h d = let half : less p zero / 2 ≡ p / 2 = omega (arith, has_zero p) in simp (has_next, half)
less_others p (suc k) zero h d = simp has_zero (omega (arith, has_le p (suc k) h))
less_others p (suc k) (suc j) h d = simp (has_next, less_half) (less_others (p / 2) k j (rw has_next at h) (λ e. d (ap suc e)))

-- a code of one literal has no other
pub has_one : (k j : ℕ) → j ≢ k → has (2 ^ k) j ≡ 0
has_one k j d =
    sym (less_others (2 ^ k) k j (has_itself k) d) ∙ ap (λ (x : ℕ). has x j) (sub_self (2 ^ k)) ∙ has_none 0 j (pow_pos j)

-- leaving out a literal that is there makes the code smaller
pub less_smaller : (p k : ℕ) → has p k ≡ 1 → less p k < p
less_smaller p k h = omega (arith, pow_pos k, has_le p k h)

-- a code below 4 ^ n has no literal from 2 * n on
pub has_high : (n p k : ℕ) → p < 4 ^ n → 2 * n ≤ k → has p k ≡ 0
has_high n p k l h = has_none p k (lt_of_lt_of_le (rw four_pow at l) (pow_mono h))

-- the remainder by a power of 2 above 2 ^ k keeps literal k
has_low : (j p k : ℕ) → has (p % 2 ^ (j + 1 + k)) k ≡ has p k
unfolding has
has_low j p k = rw (field p (j + 1) k) (mod-mod-pow (p / 2 ^ k) j 1)

-- the remainder by 4 ^ n has the same literals below 2 * n
pub has_mod : (n p k : ℕ) → k < 2 * n → has (p % 4 ^ n) k ≡ has p k
has_mod n p k l = let e : 2 * n ≡ 2 * n - suc k + 1 + k = omega arith in rw (four_pow n, e) (has_low (2 * n - suc k) p k)

-- codes below 2 ^ m with the same literals are the same
same_bits : (m p q : ℕ) → p < 2 ^ m → q < 2 ^ m → ((k : ℕ) → k < m → has p k ≡ has q k) → p ≡ q
same_bits zero p q lp lq h = omega arith
same_bits (suc m) p q lp lq h =
    let halves : p / 2 ≡ q / 2 = same_bits m (p / 2) (q / 2) (omega arith) (omega arith) (λ k l. simp has_next at (h (suc k) (omega arith))) in
    omega (arith, has_zero p, has_zero q, h 0 (omega arith))

-- codes below 4 ^ n with the same literals are the same
pub same_literals : (n p q : ℕ) → p < 4 ^ n → q < 4 ^ n → ((k : ℕ) → k < 2 * n → has p k ≡ has q k) → p ≡ q
same_literals n p q lp lq h = same_bits (2 * n) p q (rw four_pow at lp) (rw four_pow at lq) h

-- the ones of a digit of base 4 are the literals it stands for
digit_ones : (d : ℕ) → d < 4 → ones d ≡ d % 2 + d / 2
unfolding ones
digit_ones d l = let e : d / 2 / 2 ≡ 0 = omega arith in rw (ones_step d, ones_step (d / 2), e) (omega arith)

-- the literals of the n digits are the ones of the remainder by 4 ^ n
literals_remainder : (n p : ℕ) → literals n p ≡ ones (p % 4 ^ n)
unfolding literals literals_of digits ones
literals_remainder zero p = sym (ap ones (mod-one p))
literals_remainder (suc n) p =
    let d : ℕ = p / 4 ^ n % 4 in
    let parts : ones (p % 4 ^ suc n) ≡ ones d + ones (p % 4 ^ n) =
    rw (pow-succ' 4 n, mod-mul p {m = 4} (omega arith) (one-le-pow n 4 (omega arith)), four_pow n)
    (ones_cat (2 * n) (p / 2 ^ (2 * n) % 4) (p % 2 ^ (2 * n)) (mod-lt p (pow_pos (2 * n)))) in
    omega (arith, digit_ones d (mod-lt (p / 4 ^ n) (omega arith)), literals_remainder n p)

-- the number of literals is the number of ones in the code
pub literals_ones : (n p : ℕ) → p < 4 ^ n → literals n p ≡ ones p
literals_ones n p l = literals_remainder n p ∙ ap ones (mod-eq_of_lt l)
