-- A sheet over n variables, read over k + n, keeps its value and its primes: the primes over n are those over k + n below 4 ^ n.
-- A code below 4 ^ n has no literal of the k added variables, so its value, whether it is an implicant and whether it can lose a literal stay;
-- vectors over k + n variables are `u ++ v`, with u the grades of the added variables.
use mathlib.Core.Path.{◌≡◌, refl, sym, ap, ap₂, ◌∙◌, subst}
use mathlib.Core.Bool.{Bool, true, false, ◌&&◌}
use mathlib.Core.Logic.{◌⊎◌, inl, inr, ◌↔◌}
use mathlib.Core.List.Memᴰ
use mathlib.Core.List.{List, [], ◌∷◌, ◌++◌, Memᴰ}
use Prim.Native.Nat.{ℕ, ◌+◌, ◌-◌, ◌*◌, ◌^◌, ◌≤◌, ◌<◌, min, max}
use native.Mathlib.Nat.{zero-add, suc-add, min-eq_right, div-eq_of_lt, pow-le-pow_right, eq-zero-or-pos}
use native.Mathlib.Omega.{arith}
use lib.Dec.{eqb}
use lib.ListN.{length, take, drop, take-append-drop, length-append, length-take, length-drop}
use Rattle.fuzzy.specs.Phrase.{digits, has, less}
use Rattle.fuzzy.specs.Grade.{Grades, literal, least, phrase_value, sheet_value}
use Rattle.fuzzy.specs.Function.{Fn, sheet_fn, join_fn, meet_fn, complement_fn}
use Rattle.fuzzy.specs.Vector.{vector, first, implicant?, spare, prime?}
use Rattle.fuzzy.specs.Primes.{select, primes}
use Rattle.fuzzy.proofs.Search.{known, eqb_eq, eq-eqb, first_none, select_same}
use Rattle.fuzzy.proofs.Literals.{has_high, less_smaller}
use Rattle.fuzzy.proofs.Sheet.{phrase_le}
use Rattle.fuzzy.proofs.List.{in_primes}
use Rattle.fuzzy.proofs.Decide.{vector_grades, on_two}

-- g, over k more variables than f, does not depend on them and is f
abbrev pub Widens : ℕ → ℕ → Fn → Fn → Type 0
Widens k n f g = (s : ℕ) → 2 ≤ s → (u v : List ℕ) → Grades s k u → Grades s n v → g s (u ++ v) ≡ f s v

codes_le : (k n : ℕ) → 4 ^ n ≤ 4 ^ (k + n)
codes_le k n = pow-le-pow_right (omega arith) (omega arith)

wider_phrase_by : (s n p : ℕ) (u v : List ℕ) → p < 4 ^ n → phrase_value s (length u + n) p (u ++ v) ≡ phrase_value s n p v
unfolding phrase_value digits literal least
wider_phrase_by s n p [] v l = rw zero-add
wider_phrase_by s n p (g ∷ u) v l =
    let l' : p < 4 ^ (length u + n) = omega (arith, codes_le (length u) n) in
    rw (suc-add, div-eq_of_lt l') (min-eq_right (phrase_le s (length u + n) p (u ++ v)) ∙ wider_phrase_by s n p u v l)

-- a code below 4 ^ n has the same value whatever the grades of the added variables
pub wider_phrase : (s k n p : ℕ) (u v : List ℕ) → length u ≡ k → p < 4 ^ n → phrase_value s (k + n) p (u ++ v) ≡ phrase_value s n p v
wider_phrase s k n p u v e l = rw (← e) (wider_phrase_by s n p u v l)

-- a sheet whose codes are below 4 ^ n is the same function over k more variables
pub widens_sheet : (k n : ℕ) (F : List ℕ) → ((p : ℕ) → Memᴰ p F → p < 4 ^ n) → Widens k n (sheet_fn n F) (sheet_fn (k + n) F)
unfolding sheet_value
widens_sheet k n [] below s h u v gu gv = refl
widens_sheet k n (p ∷ F) below s h u v gu gv =
    ap₂ max (wider_phrase s k n p u v gu.0 (below p (Memᴰ.head refl)))
    (widens_sheet k n F (λ q m. below q (Memᴰ.tail m)) s h u v gu gv)

module _ (k n : ℕ) (f g f' g' : Fn) (wf : Widens k n f f') (wg : Widens k n g g') where
  widens_by : (o : ℕ → ℕ → ℕ) → Widens k n (λ s v. o (f s v) (g s v)) (λ s v. o (f' s v) (g' s v))
  widens_by o s h u v gu gv = ap₂ o (wf s h u v gu gv) (wg s h u v gu gv)

  -- the larger of two functions does not depend on the added variables where they do not
  pub widens_join : Widens k n (join_fn f g) (join_fn f' g')
  widens_join = widens_by max

  -- the smaller of two functions does not depend on the added variables where they do not
  pub widens_meet : Widens k n (meet_fn f g) (meet_fn f' g')
  widens_meet = widens_by min

-- the complement does not depend on the added variables where the function does not
pub widens_complement : (k n : ℕ) (f f' : Fn) → Widens k n f f' → Widens k n (complement_fn f) (complement_fn f')
widens_complement k n f f' w s h u v gu gv = ap (λ x. s - x) (w s h u v gu gv)

-- grades one after the other are grades
append_grades : (s k n : ℕ) (u v : List ℕ) → Grades s k u → Grades s n v → Grades s (k + n) (u ++ v)
append_grades s k n u v gu gv = (rw (length-append, gu.0, gv.0), λ g m. at g (Memᴰ.append_cases u m))
  where
    at : (g : ℕ) → Memᴰ g u ⊎ Memᴰ g v → g ≤ s
    at g (inl m) = gu.1 g m
    at g (inr m) = gv.1 g m

-- what holds of all grades one after the other holds of all grades
by_append : (s k n : ℕ) (P : List ℕ → Type 0) → ((u v : List ℕ) → Grades s k u → Grades s n v → P (u ++ v))
    → (x : List ℕ) → Grades s (k + n) x → P x
by_append s k n P h x gx =
    subst P e (h (take k x) (drop k x)
    (rw (length-take, gx.0) (omega arith), λ g m. member g (Memᴰ.append_left (drop k x) m))
    (rw (length-drop, gx.0) (omega arith), λ g m. member g (Memᴰ.append_right (take k x) m)))
  where
    e : take k x ++ drop k x ≡ x
    e = take-append-drop k x

    member : (g : ℕ) → Memᴰ g (take k x ++ drop k x) → g ≤ s
    member g m = gx.1 g (rw e at m)

-- two tests that hold in the same case are the same
pub same_truth : (a b : Bool) → (a ≡ true) ↔ (b ≡ true) → a ≡ b
same_truth true b h = sym (h.0 refl)
same_truth false true h = h.1 refl
same_truth false false h = refl

-- searches that find nothing under the same condition give the same answer to whether they found nothing
same_none : (t u : ℕ → Bool) (m k : ℕ) → ((j : ℕ) → j < m → t j ≡ false) ↔ ((j : ℕ) → j < k → u j ≡ false)
    → eqb (first t m) m ≡ eqb (first u k) k
same_none t u m k h = same_truth _ _ (
  λ y. eq-eqb _ _ ((first_none u k).1 (h.0 ((first_none t m).0 (eqb_eq _ _ y)))),
  λ y. eq-eqb _ _ ((first_none t m).1 (h.1 ((first_none u k).0 (eqb_eq _ _ y)))),
)

-- a code below 4 ^ n has no literal from 2 * n on, so none to spare
spare_high : (n : ℕ) (f : Fn) (p j : ℕ) → p < 4 ^ n → 2 * n ≤ j → spare n f p j ≡ false
unfolding spare
spare_high n f p j l h = rw (has_high n p j l h)

module _ (k n : ℕ) (f g : Fn) (w : Widens k n f g) where
  -- a code below 4 ^ n is an implicant over k + n variables exactly when it is one over n
  pub wider_implicant : (p : ℕ) → p < 4 ^ n → implicant? (k + n) g p ≡ implicant? n f p
  wider_implicant p l = same_truth _ _ (
    λ y. (on_two n f p).1 (λ v gv. (at zeros v gz gv).0 ((on_two (k + n) g p).0 y (zeros ++ v) (append_grades 2 k n zeros v gz gv))),
    λ y. (on_two (k + n) g p).1 (by_append 2 k n _ (λ u v gu gv. (at u v gu gv).1 ((on_two n f p).0 y v gv))),
  )
    where
      zeros : List ℕ
      zeros = vector k 0

      gz : Grades 2 k zeros
      gz = vector_grades k 0

      at : (u v : List ℕ) → Grades 2 k u → Grades 2 n v
          → (phrase_value 2 (k + n) p (u ++ v) ≤ g 2 (u ++ v)) ↔ (phrase_value 2 n p v ≤ f 2 v)
      at u v gu gv = rw (wider_phrase 2 k n p u v gu.0 l, w 2 (omega arith) u v gu gv) (λ h. h, λ h. h)

  -- a code below 4 ^ n can lose the same literals
  spare_same : (p : ℕ) → p < 4 ^ n → (j : ℕ) → spare (k + n) g p j ≡ spare n f p j
  unfolding spare
  spare_same p l j = at (known (eqb (has p j) 1))
    where
      at : (eqb (has p j) 1 ≡ true) ⊎ (eqb (has p j) 1 ≡ false)
          → eqb (has p j) 1 && implicant? (k + n) g (less p j) ≡ eqb (has p j) 1 && implicant? n f (less p j)
      at (inl y) = rw y (wider_implicant (less p j) (omega (arith, less_smaller p j (eqb_eq _ _ y))))
      at (inr y) = rw y

  -- a code below 4 ^ n is prime over k + n variables exactly when it is prime over n
  pub wider_prime : (p : ℕ) → p < 4 ^ n → prime? (k + n) g p ≡ prime? n f p
  unfolding prime?
  wider_prime p l = ap₂ ◌&&◌ (wider_implicant p l) (same_none (spare (k + n) g p) (spare n f p) (2 * (k + n)) (2 * n) (
    λ none j h. sym (spare_same p l j) ∙ none j (omega arith),
    λ none j h. spare_same p l j ∙ at none j (eq-zero-or-pos (2 * n - j)),
  ))
    where
      at : ((j : ℕ) → j < 2 * n → spare n f p j ≡ false) → (j : ℕ) → (2 * n - j ≡ 0) ⊎ (0 < 2 * n - j) → spare n f p j ≡ false
      at none j (inl h) = spare_high n f p j l (omega arith)
      at none j (inr h) = none j (omega arith)

  -- the list over n variables is what passes as prime over k + n among the codes below 4 ^ n
  pub wider : primes n f ≡ select (prime? (k + n) g) 0 (4 ^ n)
  unfolding primes
  wider = select_same (prime? n f) (prime? (k + n) g) (4 ^ n) 0 (λ p l. sym (wider_prime p (omega arith)))

  -- a code below 4 ^ n is in the list over n variables exactly when it is in the list over k + n
  pub wider_member : (p : ℕ) → p < 4 ^ n → Memᴰ p (primes n f) ↔ Memᴰ p (primes (k + n) g)
  wider_member p l = (
    λ m. (in_primes (k + n) g p).1 (omega (arith, codes_le k n), wider_prime p l ∙ ((in_primes n f p).0 m).1),
    λ m. (in_primes n f p).1 (l, sym (wider_prime p l) ∙ ((in_primes (k + n) g p).0 m).1),
  )
