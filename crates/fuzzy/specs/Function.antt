-- Functions: what gives a grade at each scale and vector, so that sheets and what is made of them share every definition that follows.
--   Fn               from a scale and a vector to a grade
--   sheet_fn n F     the sheet's value
--   join_fn f g      the larger value
--   meet_fn f g      the smaller value
--   complement_fn f  the complement value
--   zero_fn, one_fn  the constant 0 and the constant 1
--   Same n f g       f and g are equal at all grades
--   OfSheet n f      f is the function of some sheet
use Rattle.std.specs.Prelude.{◌≡◌, ℕ, ◌-◌, ◌≤◌, min, max, List}
use Rattle.fuzzy.specs.Grade.{Grades, sheet_value}

-- from a scale and a vector to a grade
abbrev pub Fn : Type 0
Fn = ℕ → List ℕ → ℕ

-- the sheet's value
abbrev pub sheet_fn : ℕ → List ℕ → Fn
sheet_fn n F s v = sheet_value s n F v

-- the larger value
abbrev pub join_fn : Fn → Fn → Fn
join_fn f g s v = max (f s v) (g s v)

-- the smaller value
abbrev pub meet_fn : Fn → Fn → Fn
meet_fn f g s v = min (f s v) (g s v)

-- the complement value
abbrev pub complement_fn : Fn → Fn
complement_fn f s v = s - f s v

-- the constant 0
abbrev pub zero_fn : Fn
zero_fn s v = 0

-- the constant 1
abbrev pub one_fn : Fn
one_fn s v = s

-- f and g are equal at every vector on every scale from 2
abbrev pub Same : ℕ → Fn → Fn → Type 0
Same n f g = (s : ℕ) → 2 ≤ s → (v : List ℕ) → Grades s n v → f s v ≡ g s v

-- f is the function of some sheet
abbrev pub OfSheet : ℕ → Fn → Type 0
OfSheet n f = (F : List ℕ) × Same n f (sheet_fn n F)
