-- The marks that the passes leave are the lists of the sheet, of the join, of the meet and of the complement.
-- A sheet with codes below 4 ^ n is the same function over six variables (`Wider`), and so are joins, meets and complements of such sheets.
use mathlib.Core.Path.{◌≡◌, refl}
use mathlib.Core.List.{List, ◌++◌, Memᴰ}
use Prim.Native.Nat.{ℕ, ◌-◌, ◌^◌, ◌≤◌, ◌<◌}
use native.Mathlib.Nat.{sub-add_cancel, lt_of_lt_of_le, pow-le-pow_right}
use native.Mathlib.Omega.{arith}
use Rattle.fuzzy.specs.Function.{Fn, sheet_fn, join_fn, meet_fn, complement_fn, Same}
use Rattle.fuzzy.specs.Primes.{primes, listed, joined, met, complemented}
use Rattle.fuzzy.proofs.Within.{meet_sheet, complement_sheet}
use Rattle.fuzzy.proofs.Closure.{join_sheet, meet_sheet_lem, complement_sheet_lem}
use Rattle.fuzzy.proofs.Wider.{Widens, widens_sheet, widens_join, widens_meet, widens_complement}
use Rattle.rows.specs.Pass.{Both, Exchanged, Others}
use Rattle.rows.specs.Read.{marks_of}
use Rattle.sheets.specs.Maps.{Maps, PrimesOf}
use Rattle.sheets.proofs.Maps.{maps_meet, maps_complement, marks_list}

-- the codes of a sheet are phrases over n variables
abbrev pub Codes : ℕ → List ℕ → Type 0
Codes n F = (q : ℕ) → Memᴰ q F → q < 4 ^ n

-- so they are phrases over six
pub few_codes : (n : ℕ) (F : List ℕ) → n ≤ 6 → Codes n F → (q : ℕ) → Memᴰ q F → q < 4096
few_codes n F few below q m = lt_of_lt_of_le (below q m) (pow-le-pow_right {n = 4} (omega arith) few)

module _ (n : ℕ) (few : n ≤ 6) where
  -- over six variables the sheet is the same function
  widens_six : (F : List ℕ) → Codes n F → Widens (6 - n) n (sheet_fn n F) (sheet_fn 6 F)
  widens_six F below = rw (sub-add_cancel few) at (widens_sheet (6 - n) n F below)

  -- a function that is the same over six variables has the list that its map gives
  list_of : (f g : Fn) (G u r : List ℕ) → Widens (6 - n) n f g → Same 6 g (sheet_fn 6 G) → Maps G u → PrimesOf n u r → marks_of r 4096 ≡ primes n f
  list_of f g G u r w same maps is = marks_list n (6 - n) f g r (sub-add_cancel few) w (is G g same maps)

  -- the sheet's list
  pub listed_marks : (F u r : List ℕ) → Codes n F → Maps F u → PrimesOf n u r → marks_of r 4096 ≡ listed n F
  listed_marks F u r below maps is = list_of (sheet_fn n F) (sheet_fn 6 F) F u r (widens_six F below) (λ s h v g. refl) maps is

  module _ (A B w r : List ℕ) (a : Codes n A) (b : Codes n B) (is : PrimesOf n w r) where
    -- the join's list
    pub joined_marks : Maps (A ++ B) w → marks_of r 4096 ≡ joined n A B
    joined_marks maps =
        list_of (join_fn (sheet_fn n A) (sheet_fn n B)) (join_fn (sheet_fn 6 A) (sheet_fn 6 B)) (A ++ B) w r
        (widens_join (6 - n) n (sheet_fn n A) (sheet_fn n B) (sheet_fn 6 A) (sheet_fn 6 B) (widens_six A a) (widens_six B b))
        (join_sheet 6 A B) maps is

    -- the meet's list
    pub met_marks : (u v : List ℕ) → Maps A u → Maps B v → Both u v w → marks_of r 4096 ≡ met n A B
    met_marks u v ma mb e =
        list_of (meet_fn (sheet_fn n A) (sheet_fn n B)) (meet_fn (sheet_fn 6 A) (sheet_fn 6 B)) (meet_sheet A B) w r
        (widens_meet (6 - n) n (sheet_fn n A) (sheet_fn n B) (sheet_fn 6 A) (sheet_fn 6 B) (widens_six A a) (widens_six B b))
        (meet_sheet_lem 6 A B) (maps_meet A B u v w ma mb e) is

  -- the complement's list
  pub complemented_marks : (A u x w r : List ℕ) → Codes n A → Maps A u → Exchanged u x → Others x w → PrimesOf n w r → marks_of r 4096 ≡ complemented n A
  complemented_marks A u x w r a ma e o is =
      list_of (complement_fn (sheet_fn n A)) (complement_fn (sheet_fn 6 A)) (complement_sheet 6 A) w r
      (widens_complement (6 - n) n (sheet_fn n A) (sheet_fn 6 A) (widens_six A a)) (complement_sheet_lem 6 A) (maps_complement A u x w ma e o) is
