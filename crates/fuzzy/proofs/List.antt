-- The list holds exactly the primes below 4 ^ n, rising, and loses nothing: its value is the function's, so equal functions have equal lists.
-- Exactness and order come from `select`. Each phrase of the sheet is an implicant and subsumes a prime, whose value is no lower; each prime is
-- an implicant, whose value is no higher. The list is computed from the values on scale 2 alone, so equal values give equal lists.
use mathlib.Core.Path.{◌≡◌, sym, ap, ap₂, ◌∙◌}
use mathlib.Core.Bool.{Bool, true, false, cond, ◌&&◌}
use mathlib.Core.Logic.{◌⊎◌, inl, inr, ◌↔◌}
use mathlib.Core.List.{List, [], ◌∷◌, ◌++◌, Memᴰ}
use Prim.Native.Nat.{ℕ, zero, suc, ◌+◌, ◌*◌, ◌%◌, ◌^◌, ◌≤◌, ◌<◌}
use native.Mathlib.Nat.{le_refl, le_trans, le_antisymm, le_of_eq, mod-lt, one-le-pow}
use native.Mathlib.Omega.{arith}
use lib.Dec.{ltb, eqb}
use lib.ListN.{length}
use Rattle.fuzzy.specs.Phrase.{has, less, Subsumes}
use Rattle.fuzzy.specs.Grade.{phrase_value, sheet_value}
use Rattle.fuzzy.specs.Function.{Fn, sheet_fn, OfSheet, Same}
use Rattle.fuzzy.specs.Implicant.{Implicant, Prime}
use Rattle.fuzzy.specs.Vector.{vector, above, lowest, implicant?, spare, prime?}
use Rattle.fuzzy.specs.Primes.{select, primes, Rising}
use Rattle.fuzzy.proofs.Search.{known, first_same, select_member, select_length, select_same}
use Rattle.fuzzy.proofs.Order.{Ordered, by_index}
use Rattle.fuzzy.proofs.Literals.{has_mod}
use Rattle.fuzzy.proofs.Subsumes.{subsumes_trans}
use Rattle.fuzzy.proofs.Sheet.{sheet_upper, sheet_least}
use Rattle.fuzzy.proofs.Reach.{lowers}
use Rattle.fuzzy.proofs.Decide.{vector_grades, decided}
use Rattle.fuzzy.proofs.Prime as P

-- the list holds what passes the test below 4 ^ n
pub in_primes : (n : ℕ) (f : Fn) (p : ℕ) → Memᴰ p (primes n f) ↔ ((p < 4 ^ n) × (prime? n f p ≡ true))
unfolding primes
in_primes n f p = (λ m. let (a, b, y) = held.0 m in (omega arith, y), λ h. held.1 (omega arith, omega arith, h.1))
  where
    held : Memᴰ p (select (prime? n f) 0 (4 ^ n)) ↔ ((0 ≤ p) × (p < 0 + 4 ^ n) × (prime? n f p ≡ true))
    held = select_member (prime? n f) (4 ^ n) 0 p

-- the list holds exactly the primes below 4 ^ n
pub exactly : (n : ℕ) (f : Fn) → OfSheet n f → (p : ℕ) → Memᴰ p (primes n f) ↔ ((p < 4 ^ n) × Prime n f p)
exactly n f o p = (
  λ m. let (l, y) = (in_primes n f p).0 m in (l, (P.prime_decided n f o p l).0 y),
  λ h. (in_primes n f p).1 (h.0, (P.prime_decided n f o p h.0).1 h.1),
)

select_order : (t : ℕ → Bool) (m k : ℕ) → Ordered ◌<◌ (select t k m)
unfolding select
select_order t zero k = tt
select_order t (suc m) k = at (known (t k)) (select_order t m (suc k))
  where
    at : (t k ≡ true) ⊎ (t k ≡ false) → Ordered ◌<◌ (select t (suc k) m) → Ordered ◌<◌ (cond (t k) (k ∷ []) [] ++ select t (suc k) m)
    at (inl e) ih = rw e (λ q m'. ((select_member t m (suc k) q).0 m').0, ih)
    at (inr e) ih = rw e ih

-- it rises strictly
pub rising : (n : ℕ) (f : Fn) → Rising (primes n f)
unfolding primes
rising n f = by_index ◌<◌ (primes n f) (select_order (prime? n f) (4 ^ n) 0)

-- it has at most 4 ^ n entries
pub few : (n : ℕ) (f : Fn) → length (primes n f) ≤ 4 ^ n
unfolding primes
few n f = select_length (prime? n f) (4 ^ n) 0

-- every implicant subsumes a prime of the list
pub reduces : (n : ℕ) (f : Fn) → OfSheet n f → (p : ℕ) → Implicant n f p → (q : ℕ) × Memᴰ q (primes n f) × Subsumes n p q
reduces n f o p i =
    let (q, l, y, sub) = P.reduces n f (p % 4 ^ n) (mod-lt p (one-le-pow n 4 (omega arith)))
    ((decided n f o (p % 4 ^ n)).1 (λ s h v g. rw (P.remainder_value s n p v) (i s h v g))) in
    (q, (in_primes n f q).1 (l, y), subsumes_trans n p (p % 4 ^ n) q (λ k l'. le_of_eq (has_mod n p k l')) sub)

-- the list's value is the function's at every vector on every scale
pub keeps : (n : ℕ) (f : Fn) → OfSheet n f → Same n (sheet_fn n (primes n f)) f
keeps n f (F, same) s h v g = le_antisymm (sheet_least s n v (primes n f) (f s v) upper) (rw (same s h v g) (sheet_least s n v F (sheet_value s n (primes n f) v) lower))
  where
    upper : (p : ℕ) → Memᴰ p (primes n f) → phrase_value s n p v ≤ f s v
    upper p m = ((exactly n f (F, same) p).0 m).1.implicant s h v g

    lower : (p : ℕ) → Memᴰ p F → phrase_value s n p v ≤ sheet_value s n (primes n f) v
    lower p m =
        let (q, m', sub) = reduces n f (F, same) p (λ t l w g'. rw (same t l w g') (sheet_upper t n w F p m)) in
        le_trans (lowers s n p q v g sub) (sheet_upper s n v (primes n f) q m')

module _ (n : ℕ) (f g : Fn) (same : (k : ℕ) → f 2 (vector n k) ≡ g 2 (vector n k)) where
  same_implicant : (p : ℕ) → implicant? n f p ≡ implicant? n g p
  unfolding implicant? lowest above
  same_implicant p =
      ap (λ (m : ℕ). eqb m (3 ^ n))
      (first_same (above n f p) (above n g p) (3 ^ n) (λ k l. ap (λ (x : ℕ). ltb x (phrase_value 2 n p (vector n k))) (same k)))

  same_prime : (p : ℕ) → prime? n f p ≡ prime? n g p
  unfolding prime? spare
  same_prime p =
      ap₂ (λ (a : Bool) (m : ℕ). a && eqb m (2 * n)) (same_implicant p)
      (first_same (spare n f p) (spare n g p) (2 * n) (λ k l. ap (λ (b : Bool). eqb (has p k) 1 && b) (same_implicant (less p k))))

  same_primes : primes n f ≡ primes n g
  unfolding primes
  same_primes = select_same (prime? n f) (prime? n g) (4 ^ n) 0 (λ p l. same_prime p)

-- functions that are equal at all grades have equal lists
pub equal_lists : (n : ℕ) (f g : Fn) → Same n f g → primes n f ≡ primes n g
equal_lists n f g same = same_primes n f g (λ k. same 2 (le_refl 2) (vector n k) (vector_grades n k))

-- two functions of sheets are equal at all grades exactly when their lists are equal
pub same_lists : (n : ℕ) (f g : Fn) → OfSheet n f → OfSheet n g → Same n f g ↔ (primes n f ≡ primes n g)
same_lists n f g o o' =
    (equal_lists n f g, λ e s h v gr. sym (keeps n f o s h v gr) ∙ ap (λ (ps : List ℕ). sheet_value s n ps v) e ∙ keeps n g o' s h v gr)
