-- Prime as document 01 defines it, as the user puts it (an implicant that can lose no literal) and as `prime?` decides it are the same.
-- If p subsumes another implicant q, it has some literal that q lacks; without that literal it still subsumes q, so it is still an implicant.
-- Losing literals while it can, every implicant comes down to a prime: its code falls each time.
use mathlib.Core.Path.{◌≡◌, sym, ap, ◌∙◌}
use mathlib.Core.Bool.{true, false, false≢true}
use mathlib.Core.Logic.Iff
use mathlib.Core.Logic.{◌⊎◌, inl, inr, ◌↔◌}
use mathlib.Core.List.{List}
use Prim.Native.Nat.{ℕ, zero, suc, ◌*◌, ◌%◌, ◌^◌, ◌≤◌, ◌<◌}
use native.Mathlib.Nat.{le_trans, le_refl, eq-or-lt_of_le, ne_of_lt, lt_trans}
use native.Mathlib.Omega.{arith}
use lib.Dec.{eqb}
use Rattle.fuzzy.specs.Phrase.{has, less, Subsumes}
use Rattle.fuzzy.specs.Grade.{least, phrase_value}
use Rattle.fuzzy.specs.Function.{Fn, OfSheet}
use Rattle.fuzzy.specs.Implicant.{Implicant, Prime, LosesNone}
use Rattle.fuzzy.specs.Vector.{first, implicant?, spare, prime?}
use Rattle.fuzzy.proofs.Search.{known, both, both_first, both_second, eqb_eq, eq-eqb, first_le, first_passes, first_none}
use Rattle.fuzzy.proofs.Digits.{digits_mod}
use Rattle.fuzzy.proofs.Literals.{has_lt, less_smaller}
use Rattle.fuzzy.proofs.Subsumes.{less_subsumed, less_subsumes, subsumes_antisym, subsumes_or_lacks, subsumes_refl, subsumes_trans}
use Rattle.fuzzy.proofs.Reach.{lowers}
use Rattle.fuzzy.proofs.Decide.{decided}

-- a phrase that subsumes an implicant is one
pub implicant_up : (n : ℕ) (f : Fn) (p q : ℕ) → Subsumes n p q → Implicant n f q → Implicant n f p
implicant_up n f p q h i s l v g = le_trans (lowers s n p q v g h) (i s l v g)

-- a prime is an implicant that can lose no literal
pub prime_loses_none : (n : ℕ) (f : Fn) (p : ℕ) → p < 4 ^ n → Prime n f p ↔ LosesNone n f p
prime_loses_none n f p below = (
  λ r. record {
    implicant = r.implicant;
    needed = λ k l h i. ne_of_lt (less_smaller p k h) (r.alone (less p k) (lt_trans (less_smaller p k h) below) i (less_subsumed n p k h));
  },
  λ r. record { implicant = r.implicant; alone = λ q l i sub. at r.needed q l i sub (subsumes_or_lacks n q p) },
)
  where
    at : ((k : ℕ) → k < 2 * n → has p k ≡ 1 → ¬ Implicant n f (less p k)) → (q : ℕ) → q < 4 ^ n → Implicant n f q → Subsumes n p q
        → Subsumes n q p ⊎ ((k : ℕ) × (k < 2 * n) × (has q k < has p k)) → q ≡ p
    at needed q l i sub (inl back) = subsumes_antisym n q p l below back sub
    at needed q l i sub (inr (k, kl, lacks)) =
        let there : has p k ≡ 1 = omega (arith, has_lt p k) in
        let absent : has q k ≡ 0 = omega (arith, has_lt p k) in
        absurd (needed k kl there (implicant_up n f (less p k) q (less_subsumes n p q k there absent sub) i))

-- `spare` says whether a literal is there and can be left out
-- `spare` says whether a literal is there and can be left out
pub spare_says : (n : ℕ) (f : Fn) (p k : ℕ) → (spare n f p k ≡ true) ↔ ((has p k ≡ 1) × (implicant? n f (less p k) ≡ true))
unfolding spare
spare_says n f p k = (
  λ e. (
    eqb_eq (has p k) 1 (both_first (eqb (has p k) 1) (implicant? n f (less p k)) e),
    both_second (eqb (has p k) 1) (implicant? n f (less p k)) e,
  ),
  λ h. both (eq-eqb (has p k) 1 h.0) h.1,
)

-- `prime?` says whether a phrase is an implicant with no literal to spare
pub prime_test : (n : ℕ) (f : Fn) (p : ℕ)
    → (prime? n f p ≡ true) ↔ ((implicant? n f p ≡ true) × ((k : ℕ) → k < 2 * n → spare n f p k ≡ false))
unfolding prime?
prime_test n f p = (
  λ e. (
    both_first (implicant? n f p) (eqb m (2 * n)) e,
    (first_none (spare n f p) (2 * n)).0 (eqb_eq m (2 * n) (both_second (implicant? n f p) (eqb m (2 * n)) e)),
  ),
  λ h. both h.0 (eq-eqb m (2 * n) ((first_none (spare n f p) (2 * n)).1 h.1)),
)
  where
    m : ℕ
    m = first (spare n f p) (2 * n)

module _ (n : ℕ) (f : Fn) (o : OfSheet n f) where
  -- the decision says whether the phrase is an implicant that can lose no literal
  prime_loses : (p : ℕ) → (prime? n f p ≡ true) ↔ LosesNone n f p
  prime_loses p = (
    λ e. let (yes_it_is, none) = (prime_test n f p).0 e in
        record {
          implicant = (decided n f o p).0 yes_it_is;
          needed = λ k l h i. false≢true (sym (none k l) ∙ (spare_says n f p k).1 (h, (decided n f o (less p k)).1 i));
        },
    λ r. (prime_test n f p).1 ((decided n f o p).1 r.implicant, λ k l. at r.needed k l (known (spare n f p k))),
  )
    where
      at : ((k : ℕ) → k < 2 * n → has p k ≡ 1 → ¬ Implicant n f (less p k)) → (k : ℕ) → k < 2 * n
          → (spare n f p k ≡ true) ⊎ (spare n f p k ≡ false) → spare n f p k ≡ false
      at needed k l (inl y) = let (h, i) = (spare_says n f p k).0 y in absurd (needed k l h ((decided n f o (less p k)).0 i))
      at needed k l (inr y) = y

  -- the decision says whether the phrase is prime
  pub prime_decided : (p : ℕ) → p < 4 ^ n → (prime? n f p ≡ true) ↔ Prime n f p
  prime_decided p l = Iff.trans (prime_loses p) (Iff.symm (prime_loses_none n f p l))

-- an implicant subsumes some phrase that passes
abbrev Reduced : ℕ → Fn → ℕ → Type 0
Reduced n f p = (q : ℕ) × (q ≤ p) × (prime? n f q ≡ true) × Subsumes n p q

-- a phrase passes itself, or comes down to a phrase with one literal less
reduce_step : (n : ℕ) (f : Fn) (p : ℕ) → implicant? n f p ≡ true
    → Reduced n f p ⊎ ((k : ℕ) × (has p k ≡ 1) × (implicant? n f (less p k) ≡ true))
reduce_step n f p i = at (eq-or-lt_of_le (first_le (spare n f p) (2 * n)))
  where
    k : ℕ
    k = first (spare n f p) (2 * n)

    at : (k ≡ 2 * n) ⊎ (k < 2 * n) → Reduced n f p ⊎ ((k : ℕ) × (has p k ≡ 1) × (implicant? n f (less p k) ≡ true))
    at (inl e) = inl (p, le_refl p, (prime_test n f p).1 (i, (first_none (spare n f p) (2 * n)).0 e), subsumes_refl n p)
    at (inr l) = let (h, j) = (spare_says n f p k).0 (first_passes (spare n f p) (2 * n) l) in inr (k, h, j)

-- so, its code falling each time, it comes down to a phrase that passes
reduce : (n : ℕ) (f : Fn) (m p : ℕ) → p < m → implicant? n f p ≡ true → Reduced n f p
reduce n f zero p l i = absurd (omega arith)
reduce n f (suc m) p l i = at (λ r h j. reduce n f m r h j) (reduce_step n f p i)
  where
    at : ((r : ℕ) → r < m → implicant? n f r ≡ true → Reduced n f r)
        → Reduced n f p ⊎ ((k : ℕ) × (has p k ≡ 1) × (implicant? n f (less p k) ≡ true)) → Reduced n f p
    at ih (inl r) = r
    at ih (inr (k, h, j)) =
        let smaller : less p k < p = less_smaller p k h in
        let (q, b, y, sub) = ih (less p k) (omega arith) j in
        (q, omega arith, y, subsumes_trans n p (less p k) q (less_subsumed n p k h) sub)

-- every implicant below 4 ^ n subsumes a phrase below 4 ^ n that passes
pub reduces : (n : ℕ) (f : Fn) (p : ℕ) → p < 4 ^ n → implicant? n f p ≡ true → (q : ℕ) × (q < 4 ^ n) × (prime? n f q ≡ true) × Subsumes n p q
reduces n f p l i = let (q, b, y, sub) = reduce n f (suc p) p (omega arith) i in (q, omega arith, y, sub)

-- over n variables a code is the same phrase as its remainder by 4 ^ n
pub remainder_value : (s n p : ℕ) (v : List ℕ) → phrase_value s n (p % 4 ^ n) v ≡ phrase_value s n p v
unfolding phrase_value
remainder_value s n p v = ap (λ (ds : List ℕ). least s ds v) (digits_mod 4 (omega arith) n p)
