-- The list of all primes, and the lists that join, meet and complement give.
--   select t k m        those of the m numbers from k on that pass the test, rising
--   primes n f          the primes of f below 4 ^ n, rising
--   InOrder R ps        each of ps is in relation R to all that come after it
--   Rising ps           each of ps is below all that come after it
--   listed n A          the primes of a sheet
--   joined n A B        the primes of the larger of two sheets
--   met n A B           the primes of the smaller of two sheets
--   complemented n A    the primes of a sheet's complement
use Rattle.std.specs.Prelude.{ℕ, zero, suc, ◌^◌, ◌<◌, Bool, cond, List, [], ◌∷◌, ◌++◌, length, get_or}
use Rattle.fuzzy.specs.Function.{Fn, sheet_fn, join_fn, meet_fn, complement_fn}
use Rattle.fuzzy.specs.Vector.{prime?}

-- those of the m numbers from k on that pass the test, rising
unfoldable pub select : (ℕ → Bool) → ℕ → ℕ → List ℕ
select t k zero = []
select t k (suc m) = cond (t k) (k ∷ []) [] ++ select t (suc k) m

-- the primes of f below 4 ^ n, rising
unfoldable pub primes : ℕ → Fn → List ℕ
primes n f = select (prime? n f) 0 (4 ^ n)

-- each of ps is in relation R to all that come after it
abbrev pub InOrder : (ℕ → ℕ → Type 0) → List ℕ → Type 0
InOrder R ps = (i j : ℕ) → i < j → j < length ps → R (get_or ps i 0) (get_or ps j 0)

-- each of ps is below all that come after it
abbrev pub Rising : List ℕ → Type 0
Rising ps = InOrder ◌<◌ ps

-- the primes of a sheet
abbrev pub listed : ℕ → List ℕ → List ℕ
listed n A = primes n (sheet_fn n A)

-- the primes of the larger of two sheets
abbrev pub joined : ℕ → List ℕ → List ℕ → List ℕ
joined n A B = primes n (join_fn (sheet_fn n A) (sheet_fn n B))

-- the primes of the smaller of two sheets
abbrev pub met : ℕ → List ℕ → List ℕ → List ℕ
met n A B = primes n (meet_fn (sheet_fn n A) (sheet_fn n B))

-- the primes of a sheet's complement
abbrev pub complemented : ℕ → List ℕ → List ℕ
complemented n A = primes n (complement_fn (sheet_fn n A))
