-- Answers in document 01's terms: a number, 0 where the call is done, and a detail; and what stands beside them.
--   Answer              a number and a detail, a struct of `src/answer.rt`
--   Valued, Asked, Listed
--                       the whole answer of `value`, of `implicant`, and of `list`, `join`, `meet` and `complement`, structs there
--   done                the call is done
--   unless holds k d    done where the test holds, else refusal k with detail d
--   or_else a b         the first where it is a refusal, else the second
--   first_of answers    the first that is a refusal, done where there is none
use Rattle.std.specs.Prelude.{ℕ, Bool, cond, List, [], ◌∷◌, eqb}
pub use Rattle.sheets.specs.declared.answer.Answer.{Answer}
pub use Rattle.sheets.specs.declared.answer.Valued.{Valued}
pub use Rattle.sheets.specs.declared.answer.Asked.{Asked}
pub use Rattle.sheets.specs.declared.answer.Listed.{Listed}

-- the call is done
abbrev pub done : Answer
done = record { number = 0; detail = 0 }

-- done where the test holds, else refusal k with detail d
unfoldable pub unless : Bool → ℕ → ℕ → Answer
unless holds k d = cond holds done (record { number = k; detail = d })

-- the first where it is a refusal, else the second
unfoldable pub or_else : Answer → Answer → Answer
or_else a b = cond (eqb a.number 0) b a

-- the first that is a refusal, done where there is none
unfoldable pub first_of : List Answer → Answer
first_of [] = done
first_of (a ∷ rest) = or_else a (first_of rest)
