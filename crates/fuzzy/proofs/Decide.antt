-- Scale 2 decides: the search over 3 ^ n vectors gives the verdict that holds on every scale from 2.
-- The numbers below 3 ^ n are exactly the vectors of scale 2, and the verdict on scale 2 is the verdict on every scale from 2 (`Scale.decides`).
use mathlib.Core.Path.{◌≡◌}
use mathlib.Core.Bool.{true, false}
use mathlib.Core.Logic.Iff
use mathlib.Core.Logic.{◌↔◌}
use mathlib.Core.List.{List, Memᴰ}
use Prim.Native.Nat.{ℕ, ◌^◌, ◌≤◌, ◌<◌}
use native.Mathlib.Nat.{le_refl, le_of_suc-le-suc, lt_of_not-le, not-le_of_lt}
use native.Mathlib.Omega.{arith}
use lib.Dec.{ltb, ltb→lt, lt→ltb}
use Rattle.fuzzy.specs.Grade.{Grades, phrase_value}
use Rattle.fuzzy.specs.Function.{Fn, OfSheet}
use Rattle.fuzzy.specs.Implicant.{ImplicantOn, Implicant}
use Rattle.fuzzy.specs.Vector.{vector, above, first, lowest, implicant?}
use Rattle.fuzzy.proofs.Search.{no_says, true_of, of_true, eqb_eq, eq-eqb, first_none}
use Rattle.fuzzy.proofs.Digits.{number, digits_length, digits_below, number_lt, digits_number}
use Rattle.fuzzy.proofs.Scale.{decides}

-- each number gives a vector of scale 2
pub vector_grades : (n k : ℕ) → Grades 2 n (vector n k)
unfolding vector
vector_grades n k = (digits_length 3 (omega arith) n k, λ g m. omega (arith, digits_below 3 (omega arith) n k g m))

-- and each vector of scale 2 has a number below 3 ^ n
pub vector_of : (n : ℕ) (v : List ℕ) → Grades 2 n v → (k : ℕ) × (k < 3 ^ n) × (vector n k ≡ v)
unfolding vector
vector_of n v g =
    let low : (d : ℕ) → Memᴰ d v → d < 3 = λ d m. omega (arith, g.1 d m) in
    (number 3 v, rw (← g.0) (number_lt 3 (omega arith) v low), rw (← g.0) (digits_number 3 (omega arith) v low))

-- the test at a vector's number says whether the phrase is above there
pub above_says : (n : ℕ) (f : Fn) (p k : ℕ) → (above n f p k ≡ true) ↔ (f 2 (vector n k) < phrase_value 2 n p (vector n k))
unfolding above
above_says n f p k = (
  λ e. ltb→lt (f 2 (vector n k)) (phrase_value 2 n p (vector n k)) (of_true e),
  λ l. true_of (ltb (f 2 (vector n k)) (phrase_value 2 n p (vector n k))) (lt→ltb (f 2 (vector n k)) (phrase_value 2 n p (vector n k)) l),
)

-- and it says no exactly where the phrase is not above
pub under_says : (n : ℕ) (f : Fn) (p k : ℕ) → (above n f p k ≡ false) ↔ (phrase_value 2 n p (vector n k) ≤ f 2 (vector n k))
under_says n f p k =
    Iff.trans (no_says (above n f p k) (f 2 (vector n k) < phrase_value 2 n p (vector n k)) (above_says n f p k))
    (λ d. le_of_suc-le-suc (lt_of_not-le d), λ l h. not-le_of_lt h l)

-- the decision is the verdict on scale 2, for every function
pub on_two : (n : ℕ) (f : Fn) (p : ℕ) → (implicant? n f p ≡ true) ↔ ImplicantOn 2 n f p
unfolding implicant? lowest
on_two n f p = (
  λ e v g. let (k, l, at) = vector_of n v g in rw (← at) ((under_says n f p k).0 (none.0 (eqb_eq (first (above n f p) (3 ^ n)) (3 ^ n) e) k l)),
  λ on. eq-eqb (first (above n f p) (3 ^ n)) (3 ^ n) (none.1 (λ k l. (under_says n f p k).1 (on (vector n k) (vector_grades n k)))),
)
  where
    none : (first (above n f p) (3 ^ n) ≡ 3 ^ n) ↔ ((k : ℕ) → k < 3 ^ n → above n f p k ≡ false)
    none = first_none (above n f p) (3 ^ n)

-- and for a sheet's function the verdict on every scale from 2
pub decided : (n : ℕ) (f : Fn) → OfSheet n f → (p : ℕ) → (implicant? n f p ≡ true) ↔ Implicant n f p
decided n f o p = (
  λ e s h. decides n f o p 2 s (le_refl 2) h ((on_two n f p).0 e),
  λ i. (on_two n f p).1 (i 2 (le_refl 2)),
)

-- so the decision is no exactly where a phrase is no implicant of it
pub refused : (n : ℕ) (f : Fn) → OfSheet n f → (p : ℕ) → (implicant? n f p ≡ false) ↔ (¬ Implicant n f p)
refused n f o p = no_says (implicant? n f p) (Implicant n f p) (decided n f o p)
