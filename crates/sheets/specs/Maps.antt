-- Within maps over six variables, and the marks of the primes that they give.
--   Maps F u            u marks the codes that have some phrase of F within them
--   EitherMaps A B u    u marks the codes that the map of A marks, or that of B
--   PrimesOf n u r      r marks the primes below 4 ^ n of every function that has the values of a sheet with the map u
use Rattle.std.specs.Prelude.{◌≡◌, true, ◌⊎◌, ◌↔◌, ℕ, ◌^◌, ◌<◌, List}
use Rattle.fuzzy.specs.Function.{Fn, sheet_fn, Same}
use Rattle.fuzzy.specs.Vector.{prime?}
use Rattle.fuzzy.proofs.Within.{Within}
use Rattle.rows.specs.Square.{Marked}

-- u marks the codes that have some phrase of F within them
abbrev pub Maps : List ℕ → List ℕ → Type 0
Maps F u = (c : ℕ) → c < 4096 → Marked u c ↔ Within 6 F c

-- u marks the codes that the map of A marks, or that of B
abbrev pub EitherMaps : List ℕ → List ℕ → List ℕ → Type 0
EitherMaps A B u = (c : ℕ) → c < 4096 → Marked u c ↔ (Within 6 A c ⊎ Within 6 B c)

-- r marks the primes below 4 ^ n of every function that has the values of a sheet with the map u
abbrev pub PrimesOf : ℕ → List ℕ → List ℕ → Type 0
PrimesOf n u r = (G : List ℕ) (g : Fn) → Same 6 g (sheet_fn 6 G) → Maps G u → (c : ℕ) → c < 4096 → Marked r c ↔ ((prime? 6 g c ≡ true) × (c < 4 ^ n))
