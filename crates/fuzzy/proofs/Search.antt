-- What the searches give: `first` the least number that passes, `select` and `those` exactly what passes, in order.
-- Each is an induction on how many numbers or phrases are left.
use mathlib.Core.Path.{◌≡◌, refl, sym, ap, ◌∙◌}
use mathlib.Core.Bool.{Bool, true, false, cond, not, ◌&&◌, ◌||◌, false≢true}
use mathlib.Core.Logic.{◌⊎◌, inl, inr, ◌↔◌, ◌≢◌}
use mathlib.Core.List.Memᴰ
use mathlib.Core.List.{List, [], ◌∷◌, ◌++◌, Memᴰ}
use Prim.Native.Nat.{ℕ, zero, suc, ◌+◌, ◌≤◌, ◌<◌}
use native.Mathlib.Nat.{eq-or-lt_of_le}
use native.Mathlib.Omega.{arith}
use lib.Dec.{T, eqb, eqb→eq, eqb_refl}
use lib.Arith.{lt_of_le-ne}
use lib.ListN.{length}
use Rattle.fuzzy.specs.Vector.{first_from, first}
use Rattle.fuzzy.specs.Primes.{select}
use Rattle.fuzzy.specs.Cover.{those, without, is_one_of}

-- a computed truth value is one of two
pub known : (b : Bool) → (b ≡ true) ⊎ (b ≡ false)
known true = inl refl
known false = inr refl

-- a test that says yes exactly where M holds says no exactly where it does not
pub no_says : (b : Bool) (M : Type 0) → (b ≡ true) ↔ M → (b ≡ false) ↔ (¬ M)
no_says true M h = (λ e. absurd (false≢true (sym e)), λ d. absurd (d (h.0 refl)))
no_says false M h = (λ e m. false≢true (h.1 m), λ d. refl)

-- where both tests say yes, so does their conjunction
pub both : {a b : Bool} → a ≡ true → b ≡ true → a && b ≡ true
both {a} {b} p q = rw p q

-- where a conjunction says yes, so does the first
pub both_first : (a b : Bool) → a && b ≡ true → a ≡ true
both_first true b e = refl
both_first false b e = e

-- and so does the second
pub both_second : (a b : Bool) → a && b ≡ true → b ≡ true
both_second true b e = e
both_second false b e = absurd (false≢true e)

-- a truth value that holds is true
pub true_of : (b : Bool) → T b → b ≡ true
true_of true t = refl
true_of false t = absurd t

-- and one that is true holds
pub of_true : {b : Bool} → b ≡ true → T b
of_true e = rw e tt

-- where the comparison says yes, the numbers are equal
pub eqb_eq : (m n : ℕ) → eqb m n ≡ true → m ≡ n
eqb_eq m n e = eqb→eq m n (of_true e)

-- where they are equal, it says yes
pub eq-eqb : (m n : ℕ) → m ≡ n → eqb m n ≡ true
eq-eqb m n e = rw e (true_of (eqb n n) (eqb_refl n))

-- where it says no, they are not
pub eqb_ne : (m n : ℕ) → eqb m n ≡ false → m ≡ n → ⊥
eqb_ne m n f e = false≢true (sym f ∙ eq-eqb m n e)

module _ (t : ℕ → Bool) where
  first_from_le : (m k : ℕ) → (k ≤ first_from t k m) × (first_from t k m ≤ k + m)
  unfolding first_from
  first_from_le zero k = omega arith
  first_from_le (suc m) k = at (known (t k)) (first_from_le m (suc k))
    where
      at : (t k ≡ true) ⊎ (t k ≡ false) → (suc k ≤ first_from t (suc k) m) × (first_from t (suc k) m ≤ suc k + m)
          → (k ≤ first_from t k (suc m)) × (first_from t k (suc m) ≤ k + suc m)
      at (inl e) h = rw e (omega arith)
      at (inr e) h = rw e (omega arith)

  first_from_passes : (m k : ℕ) → first_from t k m < k + m → t (first_from t k m) ≡ true
  unfolding first_from
  first_from_passes zero k h = absurd (omega arith)
  first_from_passes (suc m) k h = at (known (t k)) h (λ l. first_from_passes m (suc k) l)
    where
      at : (t k ≡ true) ⊎ (t k ≡ false) → first_from t k (suc m) < k + suc m
          → (first_from t (suc k) m < suc k + m → t (first_from t (suc k) m) ≡ true) → t (first_from t k (suc m)) ≡ true
      at (inl e) l ih = rw e e
      at (inr e) l ih = let l' : first_from t (suc k) m < k + suc m = rw e at l in rw e (ih (omega arith))

  first_from_least : (m k j : ℕ) → k ≤ j → j < first_from t k m → t j ≡ false
  unfolding first_from
  first_from_least zero k j l h = absurd (omega arith)
  first_from_least (suc m) k j l h = at (known (t k)) h (λ l' h'. first_from_least m (suc k) j l' h')
    where
      at : (t k ≡ true) ⊎ (t k ≡ false) → j < first_from t k (suc m)
          → (suc k ≤ j → j < first_from t (suc k) m → t j ≡ false) → t j ≡ false
      at (inl e) h' ih = let h'' : j < k = rw e at h' in absurd (omega arith)
      at (inr e) h' ih = let h'' : j < first_from t (suc k) m = rw e at h' in split (known (t j)) h''
        where
          split : (t j ≡ true) ⊎ (t j ≡ false) → j < first_from t (suc k) m → t j ≡ false
          split (inl y) h'' = ih (lt_of_le-ne l (λ same. false≢true (sym e ∙ ap t same ∙ y))) h''
          split (inr y) h'' = y

  -- `first` gives at most m
  pub first_le : (m : ℕ) → first t m ≤ m
  unfolding first
  first_le m = let h = first_from_le m 0 in omega arith

  -- what `first` finds passes
  pub first_passes : (m : ℕ) → first t m < m → t (first t m) ≡ true
  unfolding first
  first_passes m h = first_from_passes m 0 (omega arith)

  -- and nothing below it does
  pub first_least : (m j : ℕ) → j < first t m → t j ≡ false
  unfolding first
  first_least m j h = first_from_least m 0 j (omega arith) h

  -- it finds nothing exactly when nothing passes
  pub first_none : (m : ℕ) → (first t m ≡ m) ↔ ((j : ℕ) → j < m → t j ≡ false)
  first_none m = (λ e j l. first_least m j (omega arith), λ none. at none (eq-or-lt_of_le (first_le m)))
    where
      at : ((j : ℕ) → j < m → t j ≡ false) → (first t m ≡ m) ⊎ (first t m < m) → first t m ≡ m
      at none (inl e) = e
      at none (inr l) = absurd (false≢true (sym (none (first t m) l) ∙ first_passes m l))

first_from_same : (t u : ℕ → Bool) (m k : ℕ) → ((j : ℕ) → j < k + m → t j ≡ u j) → first_from t k m ≡ first_from u k m
unfolding first_from
first_from_same t u zero k same = refl
first_from_same t u (suc m) k same =
    rw (same k (omega arith), first_from_same t u m (suc k) (λ j l. same j (omega arith)))

-- `first` depends on nothing but the test's answers below m
pub first_same : (t u : ℕ → Bool) (m : ℕ) → ((j : ℕ) → j < m → t j ≡ u j) → first t m ≡ first u m
unfolding first
first_same t u m same = first_from_same t u m 0 (λ j l. same j (omega arith))

-- one number, chosen or not
pub chosen : (b : Bool) (k p : ℕ) → Memᴰ p (cond b (k ∷ []) []) ↔ ((p ≡ k) × (b ≡ true))
chosen true k p = (λ m. (Memᴰ.eq_of_singleton m, refl), λ h. Memᴰ.head h.0)
chosen false k p = (λ m. absurd (Memᴰ.not-nil m), λ h. absurd (false≢true h.1))

module _ (t : ℕ → Bool) where
  -- `select` holds exactly the numbers that pass
  pub select_member : (m k p : ℕ) → Memᴰ p (select t k m) ↔ ((k ≤ p) × (p < k + m) × (t p ≡ true))
  unfolding select
  select_member zero k p = (λ h. absurd (Memᴰ.not-nil h), λ h. absurd (omega arith))
  select_member (suc m) k p = (
    λ h. to (select_member m (suc k) p).0 (Memᴰ.append_cases (cond (t k) (k ∷ []) []) h),
    λ h. from (select_member m (suc k) p).1 h (eq-or-lt_of_le h.0),
  )
    where
      to : (Memᴰ p (select t (suc k) m) → (suc k ≤ p) × (p < suc k + m) × (t p ≡ true))
          → Memᴰ p (cond (t k) (k ∷ []) []) ⊎ Memᴰ p (select t (suc k) m) → (k ≤ p) × (p < k + suc m) × (t p ≡ true)
      to ih (inl h) = let c = (chosen (t k) k p).0 h in (omega arith, omega arith, rw c.0 c.1)
      to ih (inr h) = let c = ih h in (omega arith, omega arith, c.2)

      from : ((suc k ≤ p) × (p < suc k + m) × (t p ≡ true) → Memᴰ p (select t (suc k) m))
          → (k ≤ p) × (p < k + suc m) × (t p ≡ true) → (k ≡ p) ⊎ (k < p) → Memᴰ p (cond (t k) (k ∷ []) [] ++ select t (suc k) m)
      from ih h (inl e) = Memᴰ.append_left (select t (suc k) m) ((chosen (t k) k p).1 (sym e, ap t e ∙ h.2))
      from ih h (inr l) = Memᴰ.append_right (cond (t k) (k ∷ []) []) (ih (l, omega arith, h.2))

  -- at most as many as it looked at
  pub select_length : (m k : ℕ) → length (select t k m) ≤ m
  unfolding select
  select_length zero k = omega arith
  select_length (suc m) k = at (known (t k)) (select_length m (suc k))
    where
      at : (t k ≡ true) ⊎ (t k ≡ false) → length (select t (suc k) m) ≤ m → length (cond (t k) (k ∷ []) [] ++ select t (suc k) m) ≤ suc m
      at (inl e) ih = rw e (omega arith)
      at (inr e) ih = rw e (omega arith)

  -- `those` keeps exactly what passes
  pub those_member : (ps : List ℕ) (p : ℕ) → Memᴰ p (those t ps) ↔ (Memᴰ p ps × (t p ≡ true))
  unfolding those
  those_member [] p = (λ h. absurd (Memᴰ.not-nil h), λ h. absurd (Memᴰ.not-nil h.0))
  those_member (q ∷ ps) p = (
    λ h. to (those_member ps p).0 (Memᴰ.append_cases (cond (t q) (q ∷ []) []) h),
    λ h. from (those_member ps p).1 (Memᴰ.cases_cons h.0) h.1,
  )
    where
      to : (Memᴰ p (those t ps) → Memᴰ p ps × (t p ≡ true))
          → Memᴰ p (cond (t q) (q ∷ []) []) ⊎ Memᴰ p (those t ps) → Memᴰ p (q ∷ ps) × (t p ≡ true)
      to ih (inl h) = let c = (chosen (t q) q p).0 h in (Memᴰ.head c.0, rw c.0 c.1)
      to ih (inr h) = let c = ih h in (Memᴰ.tail c.0, c.1)

      from : (Memᴰ p ps × (t p ≡ true) → Memᴰ p (those t ps))
          → (p ≡ q) ⊎ Memᴰ p ps → t p ≡ true → Memᴰ p (cond (t q) (q ∷ []) [] ++ those t ps)
      from ih (inl e) y = Memᴰ.append_left (those t ps) ((chosen (t q) q p).1 (e, ap t (sym e) ∙ y))
      from ih (inr h) y = Memᴰ.append_right (cond (t q) (q ∷ []) []) (ih (h, y))

-- the choice depends on nothing but the test's answers where it looks
pub select_same : (t u : ℕ → Bool) (m k : ℕ) → ((j : ℕ) → j < k + m → t j ≡ u j) → select t k m ≡ select u k m
unfolding select
select_same t u zero k same = refl
select_same t u (suc m) k same =
    rw (same k (omega arith), select_same t u m (suc k) (λ j l. same j (omega arith)))

-- `without` keeps all but p
pub without_member : (p q : ℕ) (ps : List ℕ) → Memᴰ q (without p ps) ↔ (Memᴰ q ps × (q ≢ p))
unfolding without
without_member p q ps = (λ h. ((m.0 h).0, λ e. no_eq (known (eqb q p)) e (m.0 h).1), λ h. m.1 (h.0, ne (known (eqb q p)) h.1))
  where
    m : Memᴰ q (those (λ r. not (eqb r p)) ps) ↔ (Memᴰ q ps × (not (eqb q p) ≡ true))
    m = those_member (λ r. not (eqb r p)) ps q

    no_eq : (eqb q p ≡ true) ⊎ (eqb q p ≡ false) → q ≡ p → not (eqb q p) ≡ true → ⊥
    no_eq (inl y) e h = false≢true (rw y at h)
    no_eq (inr y) e h = eqb_ne q p y e

    ne : (eqb q p ≡ true) ⊎ (eqb q p ≡ false) → q ≢ p → not (eqb q p) ≡ true
    ne (inl y) d = absurd (d (eqb_eq q p y))
    ne (inr y) d = rw y

-- `is_one_of` decides membership
pub one_of : (p : ℕ) (ps : List ℕ) → (is_one_of p ps ≡ true) ↔ Memᴰ p ps
unfolding is_one_of
one_of p [] = (λ e. absurd (false≢true e), λ h. absurd (Memᴰ.not-nil h))
one_of p (q ∷ ps) = (λ e. to (known (eqb q p)) (one_of p ps).0 e, λ h. from (Memᴰ.cases_cons h) (one_of p ps).1)
  where
    to : (eqb q p ≡ true) ⊎ (eqb q p ≡ false) → (is_one_of p ps ≡ true → Memᴰ p ps) → eqb q p || is_one_of p ps ≡ true → Memᴰ p (q ∷ ps)
    to (inl y) ih e = Memᴰ.head (sym (eqb_eq q p y))
    to (inr y) ih e = Memᴰ.tail (ih (rw y at e))

    from : (p ≡ q) ⊎ Memᴰ p ps → (Memᴰ p ps → is_one_of p ps ≡ true) → eqb q p || is_one_of p ps ≡ true
    from (inl e) ih = rw (eq-eqb q p (sym e))
    from (inr h) ih = at (eqb q p)
      where
        at : (b : Bool) → b || is_one_of p ps ≡ true
        at true = refl
        at false = ih h
