-- Grades and values: what a phrase and a sheet are worth at a vector of grades.
--   Grades s n v          v is n grades of scale s, each from 0 to s
--   literal s d g         the value of the literals of digit d at grade g on scale s
--   least s ds v          the least of the digits' literals at the grades, s where there is none
--   phrase_value s n p v  the phrase's value: the least of its literals, s where it has none
--   sheet_value s n F v   the sheet's value: the greatest of its phrases, 0 where it has none
use Rattle.std.specs.Prelude.{◌≡◌, ℕ, zero, suc, ◌-◌, ◌≤◌, min, max, length}
use mathlib.Core.List.{List, [], ◌∷◌, Memᴰ}
use Rattle.fuzzy.specs.Phrase.{digits}

-- v is n grades of scale s, each from 0 to s
abbrev pub Grades : ℕ → ℕ → List ℕ → Type 0
Grades s n v = (length v ≡ n) × ((g : ℕ) → Memᴰ g v → g ≤ s)

-- the value of the literals of a digit at grade g on scale s: none, ~x, x, both
unfoldable pub literal : ℕ → ℕ → ℕ → ℕ
literal s zero g = s
literal s (suc zero) g = s - g
literal s (suc (suc zero)) g = g
literal s (suc (suc (suc d))) g = min g (s - g)

-- the least of the digits' literals at the grades, s where there is none
unfoldable pub least : ℕ → List ℕ → List ℕ → ℕ
least s [] v = s
least s (d ∷ ds) [] = s
least s (d ∷ ds) (g ∷ v) = min (literal s d g) (least s ds v)

-- the phrase's value: the least of its literals, s where it has none
unfoldable pub phrase_value : ℕ → ℕ → ℕ → List ℕ → ℕ
phrase_value s n p v = least s (digits 4 n p) v

-- the sheet's value: the greatest of its phrases, 0 where it has none
unfoldable pub sheet_value : ℕ → ℕ → List ℕ → List ℕ → ℕ
sheet_value s n [] v = 0
sheet_value s n (p ∷ F) v = max (phrase_value s n p v) (sheet_value s n F v)
