-- The phrases whose flag is 1 are the cover.
-- Flags that say who passes a test mark those who do; those of the primes that are in the cover have its members and rise like it.
--   flagged ps fs   the phrases of ps whose flag is 1
use mathlib.Core.Path.{◌≡◌, refl, sym, ap, ◌∙◌}
use mathlib.Core.Bool.{Bool, true, false, cond}
use mathlib.Core.Logic.{◌⊎◌, inl, inr, ◌↔◌}
use mathlib.Core.List.Memᴰ
use mathlib.Core.List.{List, [], ◌∷◌, ◌++◌, map, Memᴰ}
use Prim.Native.Nat.{ℕ, ◌<◌}
use native.Mathlib.Omega.{arith}
use lib.Dec.{eqb}
use Rattle.fuzzy.specs.Function.{Fn}
use Rattle.fuzzy.specs.Primes.{primes}
use Rattle.fuzzy.specs.Cover.{those, is_one_of, cover, flags}
use Rattle.fuzzy.proofs.Search.{those_member, one_of}
use Rattle.fuzzy.proofs.Order.{Ordered, by_member, those_order}
use Rattle.fuzzy.proofs.List.{rising}
use Rattle.fuzzy.proofs.Cover.{cover_member, cover_rising}

-- the phrases of ps whose flag is 1
unfoldable pub flagged : List ℕ → List ℕ → List ℕ
flagged [] fs = []
flagged (p ∷ ps) [] = []
flagged (p ∷ ps) (f ∷ fs) = cond (eqb f 1) (p ∷ []) [] ++ flagged ps fs

-- flags that say who passes a test mark those who do
flagged_those : (t : ℕ → Bool) (ps : List ℕ) → flagged ps (map (λ p. cond (t p) 1 0) ps) ≡ those t ps
unfolding flagged those
flagged_those t [] = refl
flagged_those t (p ∷ ps) = at (t p) (flagged_those t ps)
  where
    at : (b : Bool) → flagged ps (map (λ q. cond (t q) 1 0) ps) ≡ those t ps
        → cond (eqb (cond b 1 0) 1) (p ∷ []) [] ++ flagged ps (map (λ q. cond (t q) 1 0) ps) ≡ cond b (p ∷ []) [] ++ those t ps
    at true ih = ap (λ (qs : List ℕ). p ∷ qs) ih
    at false ih = ih

-- rising lists with the same members are equal
same_rising : (ps qs : List ℕ) → Ordered ◌<◌ ps → Ordered ◌<◌ qs → ((p : ℕ) → Memᴰ p ps ↔ Memᴰ p qs) → ps ≡ qs
same_rising [] [] o u h = refl
same_rising [] (q ∷ qs) o u h = absurd (Memᴰ.not-nil ((h q).1 (Memᴰ.head refl)))
same_rising (p ∷ ps) [] o u h = absurd (Memᴰ.not-nil ((h p).0 (Memᴰ.head refl)))
same_rising (p ∷ ps) (q ∷ qs) o u h =
    let heads = first (Memᴰ.cases_cons ((h p).0 (Memᴰ.head refl))) (Memᴰ.cases_cons ((h q).1 (Memᴰ.head refl))) in
    let tails = same_rising ps qs o.1 u.1 (λ x. (
      λ m. later x q qs (rw heads at (o.0 x m)) (Memᴰ.cases_cons ((h x).0 (Memᴰ.tail m))),
      λ m. later x p ps (rw (sym heads) at (u.0 x m)) (Memᴰ.cases_cons ((h x).1 (Memᴰ.tail m))),
    )) in
    rw (heads, tails)
  where
    first : (p ≡ q) ⊎ Memᴰ p qs → (q ≡ p) ⊎ Memᴰ q ps → p ≡ q
    first (inl e) b = e
    first (inr m) (inl e) = sym e
    first (inr m) (inr k) = absurd (omega (arith, u.0 p m, o.0 q k))

    later : (x y : ℕ) (ys : List ℕ) → y < x → (x ≡ y) ⊎ Memᴰ x ys → Memᴰ x ys
    later x y ys l (inl e) = absurd (omega arith)
    later x y ys l (inr m) = m

-- the flags of a function's primes mark its cover
pub flagged_cover : (n : ℕ) (f : Fn) → flagged (primes n f) (flags n f) ≡ cover n f
unfolding flags
flagged_cover n f = flagged_those kept (primes n f) ∙ same_rising (those kept (primes n f)) (cover n f) chosen_rise cover_rise same
  where
    kept : ℕ → Bool
    kept p = is_one_of p (cover n f)

    chosen_rise : Ordered ◌<◌ (those kept (primes n f))
    chosen_rise = those_order ◌<◌ kept (primes n f) (by_member ◌<◌ (primes n f) (rising n f))

    cover_rise : Ordered ◌<◌ (cover n f)
    cover_rise = by_member ◌<◌ (cover n f) (cover_rising n f)

    same : (p : ℕ) → Memᴰ p (those kept (primes n f)) ↔ Memᴰ p (cover n f)
    same p = (
      λ m. (one_of p (cover n f)).0 ((those_member kept (primes n f) p).0 m).1,
      λ m. (those_member kept (primes n f) p).1 (cover_member n f p m, (one_of p (cover n f)).1 m),
    )
