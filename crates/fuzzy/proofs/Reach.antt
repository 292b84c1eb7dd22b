-- A phrase is at least t at a vector exactly when the code of all literals that are at least t there subsumes it.
-- Digit by digit: a digit's value is at least t exactly when each of its literals is. Subsuming, too, goes digit by digit (`Covers`).
-- From this come all comparisons of values: subsuming lowers the value.
use mathlib.Core.Path.{◌≡◌, refl}
use mathlib.Core.Bool.{Bool, true, false, cond}
use mathlib.Core.Logic.{◌⊎◌, inl, inr, ◌↔◌}
use mathlib.Core.List.Memᴰ
use mathlib.Core.List.{List, [], ◌∷◌, map, Memᴰ}
use Prim.Native.Nat.{ℕ, zero, suc, ◌+◌, ◌-◌, ◌*◌, ◌/◌, ◌%◌, ◌^◌, ◌≤◌, ◌<◌}
use native.Mathlib.Nat.{le_refl, le_trans, le-min, min-le_left, min-le_right}
use native.Mathlib.Decide.{dec_lt, ℕ_discrete}
use native.Mathlib.Omega.{arith}
use lib.Dec.{leb, leb→le, le→leb}
use lib.ListN.{length, length-map}
use Rattle.fuzzy.specs.Phrase.{digits, has, Subsumes}
use Rattle.fuzzy.specs.Grade.{Grades, literal, least, phrase_value}
use Rattle.fuzzy.proofs.Search.{known, of_true, true_of}
use Rattle.fuzzy.proofs.Digits.{number, Below, digits_below, number_lt, digits_number}
use Rattle.fuzzy.proofs.Literals.{digit_complement, digit_plain}
use Rattle.fuzzy.proofs.Subsumes.{subsumes_trans}
use Rattle.fuzzy.proofs.Sheet.{phrase_le}

-- digit by digit, the first phrase has all the second's literals
abbrev pub Covers : List ℕ → List ℕ → Type 0
Covers [] es = Unit {0}
Covers (d ∷ ds) [] = Unit {0}
Covers (d ∷ ds) (e ∷ es) = (e % 2 ≤ d % 2) × (e / 2 ≤ d / 2) × Covers ds es

-- subsuming goes digit by digit
pub subsumes_covers : (n p q : ℕ) → Subsumes n p q ↔ Covers (digits 4 n p) (digits 4 n q)
unfolding digits
subsumes_covers zero p q = (λ h. tt, λ h k l. absurd (omega arith))
subsumes_covers (suc n) p q = (
  λ h. (
    rw (digit_complement p n, digit_complement q n) (h (2 * n) (omega arith)),
    rw (digit_plain p n, digit_plain q n) (h (suc (2 * n)) (omega arith)),
    (subsumes_covers n p q).0 (λ k l. h k (omega arith)),
  ),
  λ h k l. from (rw (digit_complement p n, digit_complement q n) at h.0) (rw (digit_plain p n, digit_plain q n) at h.1)
      ((subsumes_covers n p q).1 h.2) k (place k l),
)
  where
    place : (k : ℕ) → k < 2 * suc n → (k < 2 * n) ⊎ ((k ≡ 2 * n) ⊎ (k ≡ suc (2 * n)))
    place k l = at (dec_lt k (2 * n)) (ℕ_discrete k (2 * n))
      where
        at : Dec (k < 2 * n) → Dec (k ≡ 2 * n) → (k < 2 * n) ⊎ ((k ≡ 2 * n) ⊎ (k ≡ suc (2 * n)))
        at (yes y) e = inl y
        at (no a) (yes e) = inr (inl e)
        at (no a) (no b) = inr (inr (omega arith))

    from : has q (2 * n) ≤ has p (2 * n) → has q (suc (2 * n)) ≤ has p (suc (2 * n)) → Subsumes n p q
        → (k : ℕ) → (k < 2 * n) ⊎ ((k ≡ 2 * n) ⊎ (k ≡ suc (2 * n))) → has q k ≤ has p k
    from a b rest k (inl l) = rest k l
    from a b rest k (inr (inl e)) = rw e a
    from a b rest k (inr (inr e)) = rw e b

-- the digit of those literals that are at least t at grade g on scale s
unfoldable pub reach_digit : ℕ → ℕ → ℕ → ℕ
reach_digit s t g = cond (leb t (s - g)) 1 0 + cond (leb t g) 2 0

-- the code of those literals that are at least t at the vector
unfoldable pub reach : ℕ → ℕ → List ℕ → ℕ
reach s t v = number 4 (map (reach_digit s t) v)

-- a test as a number is at least 1 exactly when it passes
test_passes : (t x : ℕ) → (1 ≤ cond (leb t x) 1 0) ↔ (t ≤ x)
test_passes t x = (λ h. to (known (leb t x)) h, λ h. rw (true_of (leb t x) (le→leb t x h)) (le_refl 1))
  where
    to : (leb t x ≡ true) ⊎ (leb t x ≡ false) → 1 ≤ cond (leb t x) 1 0 → t ≤ x
    to (inl y) h = leb→le t x (of_true y)
    to (inr y) h = let z : 1 ≤ 0 = rw y at h in absurd (omega arith)

module _ (s t : ℕ) (fits : t ≤ s) where
  reach_complement : (g : ℕ) → reach_digit s t g % 2 ≡ cond (leb t (s - g)) 1 0
  unfolding reach_digit
  reach_complement g = at (leb t (s - g)) (leb t g)
    where
      at : (a b : Bool) → (cond a 1 0 + cond b 2 0) % 2 ≡ cond a 1 0
      at true true = refl
      at true false = refl
      at false true = refl
      at false false = refl

  reach_plain : (g : ℕ) → reach_digit s t g / 2 ≡ cond (leb t g) 1 0
  unfolding reach_digit
  reach_plain g = at (leb t (s - g)) (leb t g)
    where
      at : (a b : Bool) → (cond a 1 0 + cond b 2 0) / 2 ≡ cond b 1 0
      at true true = refl
      at true false = refl
      at false true = refl
      at false false = refl

  -- a digit is at least t exactly when each of its literals is
  literal_reached : (d g : ℕ) → d < 4 → (t ≤ literal s d g) ↔ ((d % 2 ≤ reach_digit s t g % 2) × (d / 2 ≤ reach_digit s t g / 2))
  unfolding literal
  literal_reached d g l = rw (reach_complement g, reach_plain g) (at d l)
    where
      minus : (1 ≤ cond (leb t (s - g)) 1 0) ↔ (t ≤ s - g)
      minus = test_passes t (s - g)

      plain : (1 ≤ cond (leb t g) 1 0) ↔ (t ≤ g)
      plain = test_passes t g

      at : (d : ℕ) → d < 4 → (t ≤ literal s d g) ↔ ((d % 2 ≤ cond (leb t (s - g)) 1 0) × (d / 2 ≤ cond (leb t g) 1 0))
      at zero l = (λ h. (omega arith, omega arith), λ h. fits)
      at (suc zero) l = (λ h. (minus.1 h, omega arith), λ h. minus.0 h.0)
      at (suc (suc zero)) l = (λ h. (omega arith, plain.1 h), λ h. plain.0 h.1)
      at (suc (suc (suc zero))) l = (
        λ h. (minus.1 (le_trans h (min-le_right g (s - g))), plain.1 (le_trans h (min-le_left g (s - g)))),
        λ h. le-min (plain.0 h.1) (minus.0 h.0),
      )
      at (suc (suc (suc (suc d)))) l = absurd (omega arith)

  -- and so for the least of many
  least_reached : (ds v : List ℕ) → Below 4 ds → (t ≤ least s ds v) ↔ Covers (map (reach_digit s t) v) ds
  unfolding least
  least_reached [] [] b = (λ h. tt, λ h. fits)
  least_reached [] (g ∷ v) b = (λ h. tt, λ h. fits)
  least_reached (d ∷ ds) [] b = (λ h. tt, λ h. fits)
  least_reached (d ∷ ds) (g ∷ v) b = (
    λ h. (
      (head.0 (le_trans h (min-le_left x y))).0,
      (head.0 (le_trans h (min-le_left x y))).1,
      (least_reached ds v (λ e m. b e (Memᴰ.tail m))).0 (le_trans h (min-le_right x y)),
    ),
    λ h. le-min (head.1 (h.0, h.1)) ((least_reached ds v (λ e m. b e (Memᴰ.tail m))).1 h.2),
  )
    where
      x : ℕ
      x = literal s d g

      y : ℕ
      y = least s ds v

      head : (t ≤ literal s d g) ↔ ((d % 2 ≤ reach_digit s t g % 2) × (d / 2 ≤ reach_digit s t g / 2))
      head = literal_reached d g (b d (Memᴰ.head refl))

reach_below : (s t : ℕ) (v : List ℕ) → Below 4 (map (reach_digit s t) v)
unfolding reach_digit
reach_below s t [] d m = absurd (Memᴰ.not-nil m)
reach_below s t (g ∷ v) d m = at (λ r. reach_below s t v d r) (Memᴰ.cases_cons m)
  where
    digit : (a b : Bool) → cond a 1 0 + cond b 2 0 < 4
    digit true true = omega arith
    digit true false = omega arith
    digit false true = omega arith
    digit false false = omega arith

    at : (Memᴰ d (map (reach_digit s t) v) → d < 4) → (d ≡ reach_digit s t g) ⊎ Memᴰ d (map (reach_digit s t) v) → d < 4
    at ih (inl e) = rw e (digit (leb t (s - g)) (leb t g))
    at ih (inr r) = ih r

-- the digits of the reached code are the reached digits
pub reach_digits : (s n t : ℕ) (v : List ℕ) → length v ≡ n → digits 4 n (reach s t v) ≡ map (reach_digit s t) v
unfolding reach
reach_digits s n t v e =
    rw (← e, ← (length-map v (reach_digit s t))) (digits_number 4 (omega arith) (map (reach_digit s t) v) (reach_below s t v))

-- the reached code is a phrase over as many variables as there are grades
pub reach_lt : (s n t : ℕ) (v : List ℕ) → length v ≡ n → reach s t v < 4 ^ n
unfolding reach
reach_lt s n t v e =
    rw (← e, ← (length-map v (reach_digit s t))) (number_lt 4 (omega arith) (map (reach_digit s t) v) (reach_below s t v))

-- a phrase is at least t exactly when the reached code subsumes it
pub reached : (s n t : ℕ) (v : List ℕ) → Grades s n v → t ≤ s → (p : ℕ) → (t ≤ phrase_value s n p v) ↔ Subsumes n (reach s t v) p
unfolding phrase_value
reached s n t v g l p = (
  λ h. (subsumes_covers n (reach s t v) p).1 (rw (reach_digits s n t v g.0) (covers.0 h)),
  λ h. covers.1 (rw (reach_digits s n t v g.0) at ((subsumes_covers n (reach s t v) p).0 h)),
)
  where
    covers : (t ≤ least s (digits 4 n p) v) ↔ Covers (map (reach_digit s t) v) (digits 4 n p)
    covers = least_reached s t l (digits 4 n p) v (digits_below 4 (omega arith) n p)

-- subsuming lowers the value
pub lowers : (s n p q : ℕ) (v : List ℕ) → Grades s n v → Subsumes n p q → phrase_value s n p v ≤ phrase_value s n q v
lowers s n p q v g h =
    (reached s n (phrase_value s n p v) v g (phrase_le s n p v) q).1
    (subsumes_trans n (reach s (phrase_value s n p v) v) p q ((reached s n (phrase_value s n p v) v g (phrase_le s n p v) p).0 (le_refl _)) h)
