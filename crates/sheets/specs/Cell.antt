-- Cells over six variables: the phrases with one set of pairs, and the points of the set that they cover.
--   build b m g    the number whose digits in base b are g 0, g 1, .. g (m - 1), from the lowest
--   pairs_of p     the set of p's pairs: bit j where p has both literals of the variable whose digit is worth 4 ^ j
--   point P x      the full code with just the pairs P, and elsewhere the variables plain that x has a bit for
--   Clear P x      x has no bit for a pair
--   AgreesAt d b   bit b agrees with the digit: it is 0 where the digit has ~x, and 1 where it is x
--   Along m p x    the first m bits of x agree with the digits of p
--   Agrees p x     x has the bits of p's plain variables outside pairs, and none for those where p has a complement
--   Fewer L P x    some phrase of L with other pairs is within the point x of P
--   Own L P x      some phrase of L with the pairs P agrees with the point x
--   Owned L own    for each set of pairs, own has the points that phrases of L with just these pairs agree with
--   Under L low    for each set of pairs, low has the points that have phrases of L with other pairs within them
use Rattle.std.specs.Prelude.{◌≡◌, ◌/◌, ◌%◌, ◌↔◌, ◌≢◌, ℕ, zero, suc, ◌+◌, ◌-◌, ◌*◌, ◌≤◌, ◌<◌, min, max, get_or}
use mathlib.Core.List.{List, Memᴰ}
use Rattle.fuzzy.specs.Phrase.{has, Subsumes}

-- the number whose digits in base b are g 0, g 1, .. g (m - 1), from the lowest
unfoldable pub build : ℕ → ℕ → (ℕ → ℕ) → ℕ
build b zero g = 0
build b (suc m) g = g 0 + b * build b m (λ j. g (suc j))

-- the set of p's pairs: bit j where p has both literals of the variable whose digit is worth 4 ^ j
unfoldable pub pairs_of : ℕ → ℕ
pairs_of p = build 2 6 (λ j. min (has p (2 * j)) (has p (suc (2 * j))))

-- the full code with just the pairs P, and elsewhere the variables plain that x has a bit for
unfoldable pub point : ℕ → ℕ → ℕ
point P x = build 4 6 (λ j. max (has P j) (1 - has x j) + 2 * max (has P j) (has x j))

-- x has no bit for a pair
abbrev pub Clear : ℕ → ℕ → Type 0
Clear P x = (j : ℕ) → j < 6 → has P j + has x j ≤ 1

-- a bit agrees with a digit: it is 0 where the digit has ~x, and 1 where it is x
abbrev pub AgreesAt : ℕ → ℕ → Type 0
AgreesAt d b = (d % 2 + b ≤ 1) × (d / 2 ≤ d % 2 + b)

-- the first m bits of x agree with the digits of p
abbrev pub Along : ℕ → ℕ → ℕ → Type 0
Along m p x = (j : ℕ) → j < m → (has p (2 * j) + has x j ≤ 1) × (has p (suc (2 * j)) ≤ has p (2 * j) + has x j)

-- x has the bits of p's plain variables outside pairs, and none for those where p has a complement
abbrev pub Agrees : ℕ → ℕ → Type 0
Agrees p x = Along 6 p x

-- some phrase of L with other pairs is within the point x of P
abbrev pub Fewer : List ℕ → ℕ → ℕ → Type 0
Fewer L P x = (q : ℕ) × Memᴰ q L × Subsumes 6 (point P x) q × (pairs_of q ≢ P)

-- some phrase of L with the pairs P agrees with the point x
abbrev pub Own : List ℕ → ℕ → ℕ → Type 0
Own L P x = (q : ℕ) × Memᴰ q L × (pairs_of q ≡ P) × Agrees q x

-- for each set of pairs, own has the points that phrases of L with just these pairs agree with
abbrev pub Owned : List ℕ → List ℕ → Type 0
Owned L own = (P x : ℕ) → P < 64 → x < 64 → (has (get_or own P 0) x ≡ 1) ↔ Own L P x

-- for each set of pairs, low has the points that have phrases of L with other pairs within them
abbrev pub Under : List ℕ → List ℕ → Type 0
Under L low = (P x : ℕ) → P < 64 → x < 64 → Clear P x → (has (get_or low P 0) x ≡ 1) ↔ Fewer L P x
