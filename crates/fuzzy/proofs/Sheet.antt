-- A sheet's value is the least bound of its phrases' values.
-- Each law is an induction on the sheet; a phrase's value never exceeds the scale, being a least with the scale in it.
use mathlib.Core.Path.{◌≡◌, refl, sym}
use mathlib.Core.Logic.{◌⊎◌, inl, inr}
use mathlib.Core.List.Memᴰ
use mathlib.Core.List.{List, [], ◌∷◌, ◌++◌, Memᴰ}
use Prim.Native.Nat.{ℕ, ◌≤◌, ◌<◌, max}
use native.Mathlib.Nat.{le_refl, le_trans, le-max_left, le-max_right, max-le, min-le_right, zero-max}
use native.Mathlib.Decide.{dec_le}
use native.Mathlib.Omega.{arith}
use Rattle.fuzzy.specs.Phrase.{digits}
use Rattle.fuzzy.specs.Grade.{literal, least, phrase_value, sheet_value}

-- the least of literals is a grade of the scale
pub least_le : (s : ℕ) (ds v : List ℕ) → least s ds v ≤ s
unfolding least
least_le s [] v = le_refl s
least_le s (d ∷ ds) [] = le_refl s
least_le s (d ∷ ds) (g ∷ v) = le_trans (min-le_right (literal s d g) (least s ds v)) (least_le s ds v)

-- a phrase's value is a grade of the scale
pub phrase_le : (s n p : ℕ) (v : List ℕ) → phrase_value s n p v ≤ s
unfolding phrase_value
phrase_le s n p v = least_le s (digits 4 n p) v

module _ (s n : ℕ) (v : List ℕ) where
  -- each phrase is at most the sheet
  pub sheet_upper : (F : List ℕ) (p : ℕ) → Memᴰ p F → phrase_value s n p v ≤ sheet_value s n F v
  unfolding sheet_value
  sheet_upper [] p m = absurd (Memᴰ.not-nil m)
  sheet_upper (q ∷ F) p m = at (λ r. sheet_upper F p r) (Memᴰ.cases_cons m)
    where
      at : (Memᴰ p F → phrase_value s n p v ≤ sheet_value s n F v) → (p ≡ q) ⊎ Memᴰ p F
          → phrase_value s n p v ≤ max (phrase_value s n q v) (sheet_value s n F v)
      at ih (inl e) = rw e (le-max_left (phrase_value s n q v) (sheet_value s n F v))
      at ih (inr r) = le_trans (ih r) (le-max_right (phrase_value s n q v) (sheet_value s n F v))

  -- the sheet is at most whatever bounds each phrase
  pub sheet_least : (F : List ℕ) (x : ℕ) → ((p : ℕ) → Memᴰ p F → phrase_value s n p v ≤ x) → sheet_value s n F v ≤ x
  unfolding sheet_value
  sheet_least [] x h = omega arith
  sheet_least (q ∷ F) x h = max-le (h q (Memᴰ.head refl)) (sheet_least F x (λ p m. h p (Memᴰ.tail m)))

  -- some phrase reaches whatever the sheet reaches above 0
  pub sheet_reached : (F : List ℕ) (t : ℕ) → 0 < t → t ≤ sheet_value s n F v → (p : ℕ) × Memᴰ p F × (t ≤ phrase_value s n p v)
  unfolding sheet_value
  sheet_reached [] t z h = absurd (omega arith)
  sheet_reached (q ∷ F) t z h = at (λ r. sheet_reached F t z r) (dec_le t (phrase_value s n q v))
    where
      at : (t ≤ sheet_value s n F v → (p : ℕ) × Memᴰ p F × (t ≤ phrase_value s n p v)) → Dec (t ≤ phrase_value s n q v)
          → (p : ℕ) × Memᴰ p (q ∷ F) × (t ≤ phrase_value s n p v)
      at ih (yes y) = (q, Memᴰ.head refl, y)
      at ih (no d) = let (p, m, l) = ih (omega arith) in (p, Memᴰ.tail m, l)

  -- the sheet of two sheets' phrases has the larger value
  pub sheet_append : (A B : List ℕ) → sheet_value s n (A ++ B) v ≡ max (sheet_value s n A v) (sheet_value s n B v)
  unfolding sheet_value
  sheet_append [] B = sym (zero-max (sheet_value s n B v))
  sheet_append (q ∷ A) B = rw (sheet_append A B) (omega arith)

  -- a sheet's value is a grade of the scale
  pub sheet_le : (F : List ℕ) → sheet_value s n F v ≤ s
  sheet_le F = sheet_least F s (λ p m. phrase_le s n p v)
