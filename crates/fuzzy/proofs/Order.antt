-- A list is in order by index exactly when each of its members is before every member that comes after it.
-- The second form is the one to work with: choosing keeps it, turning the list round turns it round, and lists in order can be joined.
-- Each law is an induction on the list.
use mathlib.Core.Path.{◌≡◌, refl, sym}
use mathlib.Core.Bool.{Bool, true, false, cond}
use mathlib.Core.Logic.{◌⊎◌, inl, inr, ◌↔◌}
use mathlib.Core.List.Memᴰ
use mathlib.Core.List.{List, [], ◌∷◌, ◌++◌, reverse, reverse-cons, Memᴰ}
use Prim.Native.Nat.{ℕ, zero, suc, ◌<◌}
use native.Mathlib.Omega.{arith}
use lib.ListN.{length, get_or}
use Rattle.fuzzy.specs.Primes.{InOrder}
use Rattle.fuzzy.specs.Cover.{those}
use Rattle.fuzzy.proofs.Search.{known, those_member}

-- each of ps is in relation R to all that come after it, by membership
abbrev pub Ordered : (ℕ → ℕ → Type 0) → List ℕ → Type 0
Ordered R [] = Unit {0}
Ordered R (p ∷ ps) = ((q : ℕ) → Memᴰ q ps → R p q) × Ordered R ps

-- what stands at an index of the list is a member
pub at_member : (ps : List ℕ) (i : ℕ) → i < length ps → Memᴰ (get_or ps i 0) ps
at_member [] i h = absurd (omega arith)
at_member (p ∷ ps) zero h = Memᴰ.head refl
at_member (p ∷ ps) (suc i) h = Memᴰ.tail (at_member ps i (omega arith))

-- a member stands at some index
pub member_at : {p : ℕ} {ps : List ℕ} → Memᴰ p ps → (i : ℕ) × (i < length ps) × (get_or ps i 0 ≡ p)
member_at (Memᴰ.head e) = (0, omega arith, sym e)
member_at (Memᴰ.tail m) = let a = member_at m in (suc a.0, omega arith, a.2)

-- a list turned round has the same members
pub reverse_member : (ps : List ℕ) (p : ℕ) → Memᴰ p (reverse ps) ↔ Memᴰ p ps
reverse_member [] p = (λ m. m, λ m. m)
reverse_member (q ∷ ps) p =
    rw (reverse-cons q ps) (
      λ m. to (reverse_member ps p).0 (Memᴰ.append_cases (reverse ps) m),
      λ m. from (reverse_member ps p).1 (Memᴰ.cases_cons m),
    )
  where
    to : (Memᴰ p (reverse ps) → Memᴰ p ps) → Memᴰ p (reverse ps) ⊎ Memᴰ p (q ∷ []) → Memᴰ p (q ∷ ps)
    to ih (inl m) = Memᴰ.tail (ih m)
    to ih (inr m) = Memᴰ.head (Memᴰ.eq_of_singleton m)

    from : (Memᴰ p ps → Memᴰ p (reverse ps)) → (p ≡ q) ⊎ Memᴰ p ps → Memᴰ p (reverse ps ++ q ∷ [])
    from ih (inl e) = Memᴰ.append_right (reverse ps) (Memᴰ.head e)
    from ih (inr m) = Memᴰ.append_left (q ∷ []) (ih m)

module _ (R : ℕ → ℕ → Type 0) where
  -- order by membership is order by index
  pub by_index : (ps : List ℕ) → Ordered R ps → InOrder R ps
  by_index [] o i j l h = absurd (omega arith)
  by_index (p ∷ ps) o zero zero l h = absurd (omega arith)
  by_index (p ∷ ps) o zero (suc j) l h = o.0 (get_or ps j 0) (at_member ps j (omega arith))
  by_index (p ∷ ps) o (suc i) zero l h = absurd (omega arith)
  by_index (p ∷ ps) o (suc i) (suc j) l h = by_index ps o.1 i j (omega arith) (omega arith)

  -- order by index is order by membership
  pub by_member : (ps : List ℕ) → InOrder R ps → Ordered R ps
  by_member [] o = tt
  by_member (p ∷ ps) o = (
    λ q m. let a = member_at m in rw a.2 at (o 0 (suc a.0) (omega arith) (omega arith)),
    by_member ps (λ i j l h. o (suc i) (suc j) (omega arith) (omega arith)),
  )

  -- those that pass a test are in order if all are
  pub those_order : (t : ℕ → Bool) (ps : List ℕ) → Ordered R ps → Ordered R (those t ps)
  unfolding those
  those_order t [] o = tt
  those_order t (p ∷ ps) o = at (known (t p)) (those_order t ps o.1)
    where
      at : (t p ≡ true) ⊎ (t p ≡ false) → Ordered R (those t ps) → Ordered R (cond (t p) (p ∷ []) [] ++ those t ps)
      at (inl e) ih = rw e (λ q m. o.0 q ((those_member t ps q).0 m).0, ih)
      at (inr e) ih = rw e ih

  -- two lists in order can be joined if each of the first is before each of the second
  pub append_order : (ps qs : List ℕ) → Ordered R ps → Ordered R qs → ((p q : ℕ) → Memᴰ p ps → Memᴰ q qs → R p q)
      → Ordered R (ps ++ qs)
  append_order [] qs o u across = u
  append_order (p ∷ ps) qs o u across =
      (λ q m. at q (Memᴰ.append_cases ps m), append_order ps qs o.1 u (λ a b m m'. across a b (Memᴰ.tail m) m'))
    where
      at : (q : ℕ) → Memᴰ q ps ⊎ Memᴰ q qs → R p q
      at q (inl m) = o.0 q m
      at q (inr m) = across p q (Memᴰ.head refl) m

  -- a list in another order turned round is in order, where the one order is the other's converse among its members
  pub reverse_order : (S : ℕ → ℕ → Type 0) (ps : List ℕ) → ((p q : ℕ) → Memᴰ p ps → Memᴰ q ps → S p q → R q p) → Ordered S ps
      → Ordered R (reverse ps)
  reverse_order S [] turn o = tt
  reverse_order S (p ∷ ps) turn o =
      let later = reverse_order S ps (λ a b m m'. turn a b (Memᴰ.tail m) (Memᴰ.tail m')) o.1 in
      rw (reverse-cons p ps) (append_order (reverse ps) (p ∷ []) later (λ q m. absurd (Memᴰ.not-nil m), tt) across)
    where
      across : (a b : ℕ) → Memᴰ a (reverse ps) → Memᴰ b (p ∷ []) → R a b
      across a b m m' =
          let k = (reverse_member ps a).0 m in
          rw (Memᴰ.eq_of_singleton m') (turn p a (Memᴰ.head refl) (Memᴰ.tail k) (o.0 a k))
