-- The cover: walk the primes, strike what the rest makes superfluous, keep what is left.
--   those t ps        those of ps that pass the test, in their order
--   without p ps      ps with p left out
--   is_one_of p ps    whether p is one of ps
--   walk n k ps       those of ps with fewer than k literals, most literals first, among equals the later in ps first
--   Before n p q      p is met before q: it has more literals, or as many and the larger code
--   strike n ps left  what is left of `left` once the phrases ps have been met one after the other
--   cover n f         what the walk leaves of the primes
--   flags n f         for each prime, 1 where it is in the cover and 0 where it was struck
use Rattle.std.specs.Prelude.{◌≡◌, ℕ, zero, suc, ◌*◌, ◌<◌, Bool, false, cond, not, ◌||◌, ◌⊎◌, List, [], ◌∷◌, ◌++◌, map, reverse, eqb}
use Rattle.fuzzy.specs.Phrase.{literals}
use Rattle.fuzzy.specs.Function.{Fn, sheet_fn}
use Rattle.fuzzy.specs.Vector.{implicant?}
use Rattle.fuzzy.specs.Primes.{primes}

-- those of ps that pass the test, in their order
unfoldable pub those : (ℕ → Bool) → List ℕ → List ℕ
those t [] = []
those t (p ∷ ps) = cond (t p) (p ∷ []) [] ++ those t ps

-- ps with p left out
unfoldable pub without : ℕ → List ℕ → List ℕ
without p ps = those (λ q. not (eqb q p)) ps

-- whether p is one of ps
unfoldable pub is_one_of : ℕ → List ℕ → Bool
is_one_of p [] = false
is_one_of p (q ∷ qs) = eqb q p || is_one_of p qs

-- those of ps with fewer than k literals, most literals first, among equals the later in ps first
unfoldable pub walk : ℕ → ℕ → List ℕ → List ℕ
walk n zero ps = []
walk n (suc k) ps = reverse (those (λ p. eqb (literals n p) k) ps) ++ walk n k ps

-- p is met before q: it has more literals, or as many and the larger code
abbrev pub Before : ℕ → ℕ → ℕ → Type 0
Before n p q = (literals n q < literals n p) ⊎ ((literals n p ≡ literals n q) × (q < p))

-- what is left of `left` once the phrases ps have been met one after the other: each is struck if it is an implicant of what is left without it
unfoldable pub strike : ℕ → List ℕ → List ℕ → List ℕ
strike n [] left = left
strike n (p ∷ ps) left =
    let rest = without p left in
    strike n ps (cond (implicant? n (sheet_fn n rest) p) rest left)

-- what the walk leaves of the primes: there are at most 2 * n literals in a phrase
unfoldable pub cover : ℕ → Fn → List ℕ
cover n f = strike n (walk n (suc (2 * n)) (primes n f)) (primes n f)

-- for each prime, 1 where it is in the cover and 0 where it was struck
unfoldable pub flags : ℕ → Fn → List ℕ
flags n f = map (λ p. cond (is_one_of p (cover n f)) 1 0) (primes n f)
