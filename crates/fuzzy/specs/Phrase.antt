-- Phrases: codes in base 4, their digits and literals, and when one phrase subsumes another.
--   digits b n c        the n digits of c in base b, x1's first
--   Complementary n p   some variable of the phrase is a pair
--   Simple n p          no variable of the phrase is a pair
--   literals_of ds      how many literals the digits stand for
--   literals n p        how many literals the phrase has
--   has p k             1 where the phrase has literal k, 0 where it has not: of the variable whose digit is worth 4 ^ j, ~x is literal 2j and x is 2j + 1
--   less p k            the phrase with its literal k left out, where it has it
--   Subsumes n p q      p has all of q's literals
use Rattle.std.specs.Prelude.{ℕ, zero, suc, ◌+◌, ◌-◌, ◌*◌, ◌/◌, ◌%◌, ◌^◌, ◌≤◌, ◌<◌}
use mathlib.Core.List.{List, [], ◌∷◌, Memᴰ}

-- the n digits of c in base b, x1's first
unfoldable pub digits : ℕ → ℕ → ℕ → List ℕ
digits b zero c = []
digits b (suc n) c = c / b ^ n % b ∷ digits b n c

-- some variable of the phrase is a pair
abbrev pub Complementary : ℕ → ℕ → Type 0
Complementary n p = Memᴰ 3 (digits 4 n p)

-- no variable of the phrase is a pair
abbrev pub Simple : ℕ → ℕ → Type 0
Simple n p = ¬ Complementary n p

-- how many literals the digits stand for: none for 0, ~x for 1, x for 2, both for 3
unfoldable pub literals_of : List ℕ → ℕ
literals_of [] = 0
literals_of (d ∷ ds) = d % 2 + d / 2 + literals_of ds

-- how many literals the phrase has
unfoldable pub literals : ℕ → ℕ → ℕ
literals n p = literals_of (digits 4 n p)

-- 1 where the phrase has literal k, 0 where it has not
unfoldable pub has : ℕ → ℕ → ℕ
has p k = p / 2 ^ k % 2

-- the phrase with its literal k left out, where it has it
abbrev pub less : ℕ → ℕ → ℕ
less p k = p - 2 ^ k

-- p has all of q's literals
abbrev pub Subsumes : ℕ → ℕ → ℕ → Type 0
Subsumes n p q = (k : ℕ) → k < 2 * n → has q k ≤ has p k
