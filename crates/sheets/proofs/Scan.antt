-- What one turn of each scan does to what is left of it.
use mathlib.Core.Path.{◌≡◌}
use mathlib.Core.List.{List}
use Prim.Native.Nat.{ℕ, suc, ◌+◌, ◌-◌, ◌*◌, ◌/◌, ◌%◌, ◌^◌, ◌≤◌, ◌<◌, min, max}
use native.Mathlib.Nat.{le_trans, pow-le-pow_left, pow-le-pow_right}
use native.Mathlib.Numerals.{add-one}
use native.Mathlib.Omega.{arith}
use lib.ListN.{length, get_or, drop}
use lib.Seq.{drop-cons, drop-length}
use Rattle.fuzzy.specs.Phrase.{digits}
use Rattle.fuzzy.specs.Grade.{literal, least, phrase_value, sheet_value}
use Rattle.fuzzy.proofs.Digits.{four_pow}

-- a power with a base up to 4 and an exponent up to 6 fits 16 bits
pub power_fits : (base n : ℕ) → base ≤ 4 → n ≤ 6 → base ^ n < 65536
power_fits base n b l =
    omega (arith, le_trans (pow-le-pow_left b n) (pow-le-pow_right {n = 4} (omega arith) {j = 6} l))

-- what is left of a phrase's least, past the variable at i
pub phrase_step : (s p : ℕ) (v : List ℕ) (i : ℕ) → i < length v
    → phrase_value s (length v - i) p (drop i v)
    ≡ min (literal s (p / 2 ^ (2 * (length v - 1 - i)) % 4) (get_or v i 0)) (phrase_value s (length v - (i + 1)) p (drop (i + 1) v))
unfolding phrase_value least digits
phrase_step s p v i l =
    let this : length v - i ≡ suc (length v - 1 - i) = omega arith in
    let rest : length v - (i + 1) ≡ length v - 1 - i = omega arith in
    rw (this, rest, add-one i, drop-cons v i 0 l, four_pow (length v - 1 - i))

-- nothing is left of it past the last variable
pub phrase_end : (s n p : ℕ) (v : List ℕ) → n ≡ 0 → phrase_value s n p v ≡ s
unfolding phrase_value least digits
phrase_end s n p v e = rw e

-- what is left of a sheet's greatest, past the phrase at j
pub sheet_step : (s n : ℕ) (F v : List ℕ) (j : ℕ) → j < length F
    → sheet_value s n (drop j F) v ≡ max (phrase_value s n (get_or F j 0) v) (sheet_value s n (drop (j + 1) F) v)
unfolding sheet_value
sheet_step s n F v j l = rw (add-one j, drop-cons F j 0 l)

-- nothing is left of it past the last phrase
pub sheet_end : (s n : ℕ) (F v : List ℕ) (j : ℕ) → j ≡ length F → sheet_value s n (drop j F) v ≡ 0
unfolding sheet_value
sheet_end s n F v j e = rw (e, drop-length F)
