-- The decision over 3 ^ n vectors is the definition over all scales, for sheets and for the larger, the smaller and the complement of sheets.
-- Each of these functions is a sheet's (`Closure`), and for a sheet's function scale 2 decides (`Decide.decided`).
use mathlib.Core.Path.{◌≡◌}
use mathlib.Core.Bool.{true}
use mathlib.Core.Logic.{◌↔◌}
use mathlib.Core.List.{List}
use Prim.Native.Nat.{ℕ}
use Rattle.fuzzy.specs.Function.{Fn, sheet_fn, join_fn, meet_fn, complement_fn}
use Rattle.fuzzy.specs.Implicant.{Implicant}
use Rattle.fuzzy.specs.Vector.{implicant?}
use Rattle.fuzzy.proofs.Decide.{decided}
use Rattle.fuzzy.proofs.Closure.{of_sheet_lem, of_joined, of_met, of_complemented}

-- the decision is the definition
abbrev pub Decides : ℕ → Fn → Type 0
Decides n f = (p : ℕ) → (implicant? n f p ≡ true) ↔ Implicant n f p

module _ (n : ℕ) (A : List ℕ) where
  -- for a sheet
  pub sheet : Decides n (sheet_fn n A)
  sheet = decided n (sheet_fn n A) (of_sheet_lem n A)

  -- for the complement of a sheet
  pub complement : Decides n (complement_fn (sheet_fn n A))
  complement = decided n (complement_fn (sheet_fn n A)) (of_complemented n A)

module _ (n : ℕ) (A B : List ℕ) where
  -- for the larger of two sheets
  pub join : Decides n (join_fn (sheet_fn n A) (sheet_fn n B))
  join = decided n (join_fn (sheet_fn n A) (sheet_fn n B)) (of_joined n A B)

  -- for the smaller of two sheets
  pub meet : Decides n (meet_fn (sheet_fn n A) (sheet_fn n B))
  meet = decided n (meet_fn (sheet_fn n A) (sheet_fn n B)) (of_met n A B)
