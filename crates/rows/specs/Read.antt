-- The marked codes below a limit, as a list, and how a list is written into a lent buffer.
--   is_marked m c       whether code c is marked
--   marks_of m limit    the marked codes below the limit, rising
--   row_marks row base  the codes that a row marks, its first code being base, rising
--   written new old     a buffer that held old, after new was written at its front
--   read_into new old   the same where new fits, else old
use Rattle.std.specs.Prelude.{Bool, cond, ℕ, ◌-◌, List, ◌++◌, eqb, leb, length, drop}
use Rattle.fuzzy.specs.Phrase.{has}
use Rattle.fuzzy.specs.Primes.{select}
use Rattle.rows.specs.Square.{square}

-- whether code c is marked
abbrev pub is_marked : List ℕ → ℕ → Bool
is_marked m c = eqb (square m c) 1

-- the marked codes below the limit, rising
abbrev pub marks_of : List ℕ → ℕ → List ℕ
marks_of m limit = select (is_marked m) 0 limit

-- the codes that a row marks, its first code being base, rising
unfoldable pub row_marks : ℕ → ℕ → List ℕ
row_marks row base = select (λ c. eqb (has row (c - base)) 1) base 64

-- a buffer that held old, after new was written at its front
unfoldable pub written : List ℕ → List ℕ → List ℕ
written new old = new ++ drop (length new) old

-- a buffer that held old, after new was written at its front where it fits
unfoldable pub read_into : List ℕ → List ℕ → List ℕ
read_into new old = cond (leb (length new) (length old)) (written new old) old
