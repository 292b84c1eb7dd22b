-- Marks over the codes of six variables: 64 rows of 64 bits.
--   square m c     1 where code c is marked, 0 where it is not
--   Marked m c     code c is one of the 4,096, and marked
use Rattle.std.specs.Prelude.{◌≡◌, ℕ, ◌/◌, ◌%◌, ◌<◌, List, get_or}
use Rattle.fuzzy.specs.Phrase.{has}

-- 1 where code c is marked, 0 where it is not
unfoldable pub square : List ℕ → ℕ → ℕ
square m c = has (get_or m (c / 64) 0) (c % 64)

-- code c is one of the 4,096, and marked
abbrev pub Marked : List ℕ → ℕ → Type 0
Marked m c = (c < 4096) × (square m c ≡ 1)
