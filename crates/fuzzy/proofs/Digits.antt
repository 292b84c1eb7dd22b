-- A number and its digits determine each other: `digits b n` and `number b` undo each other, below b ^ n and for digits below b.
-- Each law is an induction on the number of digits, the first digit split off; `digits_high` says that the digits do not see
-- multiples of b ^ n, so the tail of a number's digits is the digits of its remainder.
use mathlib.Core.Path.{◌≡◌, refl, sym, ap, ◌∙◌}
use mathlib.Core.Logic.{◌⊎◌, inl, inr}
use mathlib.Core.List.Memᴰ
use mathlib.Core.List.{List, [], ◌∷◌, Memᴰ}
use Prim.Native.Nat.{ℕ, zero, suc, ◌+◌, ◌*◌, ◌/◌, ◌%◌, ◌^◌, ◌<◌}
use native.Mathlib.Nat.{one-le-pow, pow-zero, pow-succ', mul_assoc, mod-lt, mod-one, mod-eq_of_lt, mul-add-div_right, mul-add-mod_self_right, div-add-mod'}
use native.Mathlib.Omega.{arith}
use lib.Arith.{digits_lt, digits_div, mod-mul}
use lib.ListN.{length}
use Rattle.fuzzy.specs.Phrase.{digits}

-- the number with the given digits in base b
unfoldable pub number : ℕ → List ℕ → ℕ
number b [] = 0
number b (d ∷ ds) = d * b ^ length ds + number b ds

-- each of the list is below b
abbrev pub Below : ℕ → List ℕ → Type 0
Below b ds = (d : ℕ) → Memᴰ d ds → d < b

-- a power of 4 is a power of 2
pub four_pow : (n : ℕ) → 4 ^ n ≡ 2 ^ (2 * n)
four_pow zero = refl
four_pow (suc n) = let twice : 2 * suc n ≡ suc (suc (2 * n)) = omega arith in rw twice (omega (arith, four_pow n))

module _ (b : ℕ) (positive : 0 < b) where
  power_positive : (n : ℕ) → 0 < b ^ n
  power_positive n = one-le-pow n b positive

  -- there are n digits
  pub digits_length : (n c : ℕ) → length (digits b n c) ≡ n
  unfolding digits
  digits_length zero c = refl
  digits_length (suc n) c = ap suc (digits_length n c)

  -- each digit is below the base
  pub digits_below : (n c : ℕ) → Below b (digits b n c)
  unfolding digits
  digits_below zero c d m = absurd (Memᴰ.not-nil m)
  digits_below (suc n) c d m = at (Memᴰ.cases_cons m) (digits_below n c d)
    where
      at : (d ≡ c / b ^ n % b) ⊎ Memᴰ d (digits b n c) → (Memᴰ d (digits b n c) → d < b) → d < b
      at (inl e) ih = rw e (mod-lt (c / b ^ n) positive)
      at (inr m) ih = ih m

  -- a number with L digits below b is below b ^ L
  pub number_lt : (ds : List ℕ) → Below b ds → number b ds < b ^ length ds
  unfolding number
  number_lt [] h = power_positive 0
  number_lt (d ∷ ds) h =
      rw (pow-succ' b (length ds)) (digits_lt (h d (Memᴰ.head refl)) (number_lt ds (λ e m. h e (Memᴰ.tail m))))

  -- the n digits do not see multiples of b ^ n
  pub digits_high : (n a r : ℕ) → digits b n (a * b ^ n + r) ≡ digits b n r
  unfolding digits
  digits_high zero a r = refl
  digits_high (suc n) a r =
      let step : a * b ^ suc n ≡ a * b * b ^ n = ap (λ (x : ℕ). a * x) (pow-succ' b n) ∙ sym (mul_assoc a b (b ^ n)) in
      rw (step, mul-add-div_right (power_positive n) (a * b) r, mul-add-mod_self_right a b (r / b ^ n), digits_high n (a * b) r)

  -- the digits of the number with the given digits are these digits
  pub digits_number : (ds : List ℕ) → Below b ds → digits b (length ds) (number b ds) ≡ ds
  unfolding digits number
  digits_number [] h = refl
  digits_number (d ∷ ds) h =
      let low : Below b ds = λ e m. h e (Memᴰ.tail m) in
      rw (digits_div d (number_lt ds low), mod-eq_of_lt (h d (Memᴰ.head refl)), digits_high (length ds) d (number b ds), digits_number ds low)

  -- the number with the n digits of c is c's remainder by b ^ n
  pub number_remainder : (n c : ℕ) → number b (digits b n c) ≡ c % b ^ n
  unfolding digits number
  number_remainder zero c = rw (pow-zero b) (sym (mod-one c))
  number_remainder (suc n) c =
      rw (digits_length n c, number_remainder n c, pow-succ' b n, mod-mul c positive (power_positive n))

  -- the number with the n digits of c is c, where c is below b ^ n
  pub number_digits : (n c : ℕ) → c < b ^ n → number b (digits b n c) ≡ c
  number_digits n c h = number_remainder n c ∙ mod-eq_of_lt h

  -- the n digits of c are those of its remainder by b ^ n
  pub digits_mod : (n c : ℕ) → digits b n (c % b ^ n) ≡ digits b n c
  digits_mod n c = sym (digits_high n (c / b ^ n) (c % b ^ n)) ∙ ap (digits b n) (div-add-mod' c (b ^ n))
