-- Subsuming is having all literals: an order on phrases, which `bit_and` decides, and it is decided literal by literal.
-- Where one phrase does not subsume another, a search over the 2 * n literals finds one that it lacks.
use mathlib.Core.Path.{◌≡◌, sym, ap, ◌∙◌}
use mathlib.Core.Bool.{Bool, true, false, false≢true}
use mathlib.Core.Logic.{◌⊎◌, inl, inr, ◌↔◌}
use Prim.Native.Nat.{ℕ, ◌*◌, ◌^◌, ◌≤◌, ◌<◌}
use native.Mathlib.Nat.{le_trans, le_refl, le_antisymm, le_of_eq, lt_of_not-le, lt_of_le_of_lt, eq-or-lt_of_le, min-eq_right, max-le}
use native.Mathlib.Decide.{dec_le, ℕ_discrete}
use native.Mathlib.Omega.{arith}
use lib.Bits.{bit_and, bit_or, and_le_r}
use lib.Dec.{ltb, ltb→lt, lt→ltb, eqb}
use lib.Pow.{pow_pos}
use Rattle.fuzzy.specs.Phrase.{has, less, Subsumes}
use Rattle.fuzzy.specs.Vector.{first}
use Rattle.fuzzy.proofs.Search.{known, true_of, of_true, eqb_eq, eqb_ne, first_le, first_passes, first_none}
use Rattle.fuzzy.proofs.Literals.{has_lt, has_none, has_or, has_and, has_one, has_itself, less_has, less_others, same_literals}

-- a phrase subsumes itself
pub subsumes_refl : (n p : ℕ) → Subsumes n p p
subsumes_refl n p k l = le_refl (has p k)

-- what subsumes a phrase subsumes what that phrase subsumes
pub subsumes_trans : (n p q r : ℕ) → Subsumes n p q → Subsumes n q r → Subsumes n p r
subsumes_trans n p q r a b k l = le_trans (b k l) (a k l)

-- phrases that subsume each other are the same
pub subsumes_antisym : (n p q : ℕ) → p < 4 ^ n → q < 4 ^ n → Subsumes n p q → Subsumes n q p → p ≡ q
subsumes_antisym n p q lp lq a b = same_literals n p q lp lq (λ k l. le_antisymm (b k l) (a k l))

-- every phrase subsumes the one without literals
pub subsumes_empty : (n p : ℕ) → Subsumes n p 0
subsumes_empty n p k l = rw (has_none 0 k (pow_pos k)) (omega arith)

-- a phrase subsumes a union exactly when it subsumes both
pub subsumes_union : (n c p q : ℕ) → Subsumes n c (bit_or p q) ↔ (Subsumes n c p × Subsumes n c q)
subsumes_union n c p q = (
  λ h. (λ k l. omega (arith, h k l, has_or p q k), λ k l. omega (arith, h k l, has_or p q k)),
  λ h k l. rw (has_or p q k) (max-le (h.0 k l) (h.1 k l)),
)

-- a phrase subsumes a single literal exactly when it has it
pub subsumes_one : (n c k : ℕ) → k < 2 * n → Subsumes n c (2 ^ k) ↔ (has c k ≡ 1)
subsumes_one n c k l = (λ h. omega (arith, h k l, has_itself k, has_lt c k), λ e j lj. at e j (known (eqb j k)))
  where
    at : has c k ≡ 1 → (j : ℕ) → (eqb j k ≡ true) ⊎ (eqb j k ≡ false) → has (2 ^ k) j ≤ has c j
    at e j (inl y) = rw (eqb_eq j k y) (omega (arith, has_itself k))
    at e j (inr y) = omega (arith, has_one k j (eqb_ne j k y))

-- of two phrases the first has all the second's literals, or the second has one that the first lacks
pub subsumes_or_lacks : (n p q : ℕ) → Subsumes n p q ⊎ ((k : ℕ) × (k < 2 * n) × (has p k < has q k))
subsumes_or_lacks n p q = at (eq-or-lt_of_le (first_le lacks (2 * n)))
  where
    lacks : ℕ → Bool
    lacks k = ltb (has p k) (has q k)

    under : (k : ℕ) → lacks k ≡ false → Dec (has q k ≤ has p k) → has q k ≤ has p k
    under k e (yes y) = y
    under k e (no d) = absurd (false≢true (sym e ∙ true_of (lacks k) (lt→ltb (has p k) (has q k) (lt_of_not-le d))))

    at : (first lacks (2 * n) ≡ 2 * n) ⊎ (first lacks (2 * n) < 2 * n) → Subsumes n p q ⊎ ((k : ℕ) × (k < 2 * n) × (has p k < has q k))
    at (inl e) = inl (λ k l. under k ((first_none lacks (2 * n)).0 e k l) (dec_le (has q k) (has p k)))
    at (inr l) = inr (first lacks (2 * n), l, ltb→lt (has p (first lacks (2 * n))) (has q (first lacks (2 * n))) (of_true (first_passes lacks (2 * n) l)))

-- a phrase subsumes itself less a literal
pub less_subsumed : (n p k : ℕ) → has p k ≡ 1 → Subsumes n p (less p k)
less_subsumed n p k h j l = at (ℕ_discrete j k)
  where
    at : Dec (j ≡ k) → has (less p k) j ≤ has p j
    at (yes e) = rw (e, less_has p k h) (omega arith)
    at (no d) = le_of_eq (less_others p k j h d)

-- less a literal that q lacks, p still subsumes q
pub less_subsumes : (n p q k : ℕ) → has p k ≡ 1 → has q k ≡ 0 → Subsumes n p q → Subsumes n (less p k) q
less_subsumes n p q k h z sub j l = at (ℕ_discrete j k)
  where
    at : Dec (j ≡ k) → has q j ≤ has (less p k) j
    at (yes e) = rw (e, z) (omega arith)
    at (no d) = rw (less_others p k j h d) (sub j l)

-- p has all of q's literals exactly when q is what the two share
pub subsumes_and : (n p q : ℕ) → q < 4 ^ n → Subsumes n p q ↔ (bit_and p q ≡ q)
subsumes_and n p q lq = (
  λ h. same_literals n (bit_and p q) q (lt_of_le_of_lt (and_le_r p q) lq) lq (λ k l. has_and p q k ∙ min-eq_right (h k l)),
  λ e k l. omega (arith, has_and p q k, ap (λ (x : ℕ). has x k) e),
)
