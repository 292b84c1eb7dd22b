-- The walk meets every phrase once: those with more literals first, among equals the larger code.
-- Each round of the walk takes the phrases with one number of literals, turned round; no phrase has more than 2 * n literals.
use mathlib.Core.Path.{◌≡◌, sym, ap, ◌∙◌}
use mathlib.Core.Bool.{true}
use mathlib.Core.Logic.{◌⊎◌, inl, inr, ◌↔◌, ◌≢◌}
use mathlib.Core.List.Memᴰ
use mathlib.Core.List.{List, ◌++◌, reverse, Memᴰ}
use Prim.Native.Nat.{ℕ, zero, suc, ◌*◌, ◌≤◌, ◌<◌}
use native.Mathlib.Nat.{eq-or-lt_of_le, le_of_suc-le-suc}
use native.Mathlib.Omega.{arith}
use lib.Dec.{eqb}
use Rattle.fuzzy.specs.Phrase.{digits, literals_of, literals}
use Rattle.fuzzy.specs.Primes.{InOrder, Rising}
use Rattle.fuzzy.specs.Cover.{those, walk, Before}
use Rattle.fuzzy.proofs.Search.{those_member, eqb_eq, eq-eqb}
use Rattle.fuzzy.proofs.Order.{Ordered, reverse_member, by_index, by_member, those_order, append_order, reverse_order}

-- a phrase over n variables has at most 2 * n literals
pub literals_le : (n p : ℕ) → literals n p ≤ 2 * n
unfolding literals literals_of digits
literals_le zero p = omega arith
literals_le (suc n) p = let h = literals_le n p in omega arith

before_differs : (n : ℕ) {p q : ℕ} → Before n p q → p ≢ q
before_differs n (inl more) e = omega (arith, ap (literals n) e)
before_differs n (inr equal) e = omega arith

module _ (n : ℕ) (ps : List ℕ) where
  -- the phrases that one round of the walk meets
  abbrev round : ℕ → List ℕ
  round k = those (λ p. eqb (literals n p) k) ps

  round_member : (k p : ℕ) → Memᴰ p (round k) ↔ (Memᴰ p ps × (literals n p ≡ k))
  round_member k p = (λ m. let h = r.0 m in (h.0, eqb_eq (literals n p) k h.1), λ h. r.1 (h.0, eq-eqb (literals n p) k h.1))
    where
      r : Memᴰ p (round k) ↔ (Memᴰ p ps × (eqb (literals n p) k ≡ true))
      r = those_member (λ q. eqb (literals n q) k) ps p

  pub rounds_member : (k p : ℕ) → Memᴰ p (walk n k ps) ↔ (Memᴰ p ps × (literals n p < k))
  unfolding walk
  rounds_member zero p = (λ m. absurd (Memᴰ.not-nil m), λ h. absurd (omega arith))
  rounds_member (suc k) p = (
    λ m. to (rounds_member k p).0 (Memᴰ.append_cases (reverse (round k)) m),
    λ h. from (rounds_member k p).1 h.0 (eq-or-lt_of_le (le_of_suc-le-suc h.1)),
  )
    where
      to : (Memᴰ p (walk n k ps) → Memᴰ p ps × (literals n p < k))
          → Memᴰ p (reverse (round k)) ⊎ Memᴰ p (walk n k ps) → Memᴰ p ps × (literals n p < suc k)
      to ih (inl m) = let h = (round_member k p).0 ((reverse_member (round k) p).0 m) in (h.0, omega arith)
      to ih (inr m) = let h = ih m in (h.0, omega arith)

      from : (Memᴰ p ps × (literals n p < k) → Memᴰ p (walk n k ps)) → Memᴰ p ps
          → (literals n p ≡ k) ⊎ (literals n p < k) → Memᴰ p (reverse (round k) ++ walk n k ps)
      from ih m (inl e) = Memᴰ.append_left (walk n k ps) ((reverse_member (round k) p).1 ((round_member k p).1 (m, e)))
      from ih m (inr l) = Memᴰ.append_right (reverse (round k)) (ih (m, l))

  rounds_order : (k : ℕ) → Ordered ◌<◌ ps → Ordered (Before n) (walk n k ps)
  unfolding walk
  rounds_order zero o = tt
  rounds_order (suc k) o = append_order (Before n) (reverse (round k)) (walk n k ps) here (rounds_order k o) across
    where
      alike : (p : ℕ) → Memᴰ p (round k) → literals n p ≡ k
      alike p m = ((round_member k p).0 m).1

      here : Ordered (Before n) (reverse (round k))
      here = reverse_order (Before n) ◌<◌ (round k) (λ p q a b l. inr (alike q b ∙ sym (alike p a), l))
          (those_order ◌<◌ (λ p. eqb (literals n p) k) ps o)

      across : (p q : ℕ) → Memᴰ p (reverse (round k)) → Memᴰ q (walk n k ps) → Before n p q
      across p q a b = inl (omega (arith, alike p ((reverse_member (round k) p).0 a), ((rounds_member k q).0 b).1))

  -- the walk meets the phrases of the list and no others
  pub walk_member : (p : ℕ) → Memᴰ p (walk n (suc (2 * n)) ps) ↔ Memᴰ p ps
  walk_member p = (λ m. (r.0 m).0, λ m. r.1 (m, omega (arith, literals_le n p)))
    where
      r : Memᴰ p (walk n (suc (2 * n)) ps) ↔ (Memᴰ p ps × (literals n p < suc (2 * n)))
      r = rounds_member (suc (2 * n)) p

  -- of two phrases the walk meets first the one with more literals, among equals the one with the larger code
  pub walk_order : Rising ps → InOrder (Before n) (walk n (suc (2 * n)) ps)
  walk_order h = by_index (Before n) (walk n (suc (2 * n)) ps) (rounds_order (suc (2 * n)) (by_member ◌<◌ ps h))

  -- the walk meets no phrase twice
  pub walk_once : Rising ps → InOrder ◌≢◌ (walk n (suc (2 * n)) ps)
  walk_once h i j l b = before_differs n (walk_order h i j l b)
