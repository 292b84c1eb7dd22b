-- What a call's result tells in document 01's terms.
--   answer_of e                    the number and the detail of a refusal
--   refusal_text e                 number and detail in decimal, parted by a blank
--   told r                         done, or the refusal's number and detail
--   value_told r, verdict_told r, count_told r
--                                  the whole answer of `value`, of `implicant` and of the calls that list: on a refusal value 0, no with vector 0, count 0
use Rattle.std.specs.Prelude.{ℕ, true, false, List, ◌∷◌, ◌++◌, Option, Some, None, Result, Ok, Err}
use Rattle.std.specs.Fmt.{decimal}
use Rattle.sheets.specs.declared.refusal.Refusal.{Refusal}
use Rattle.sheets.specs.declared.refusal.Refusal.TheVariants.{BadVariables, LongSheet, ForeignCode, NoRoom, BadScale, WrongCount, HighGrade, ForeignPhrase}
use Rattle.sheets.specs.Answer.{Answer, Valued, Asked, Listed, done}

-- the number and the detail of a refusal
abbrev pub answer_of : Refusal → Answer
answer_of (BadVariables given) = record { number = 1; detail = given }
answer_of (LongSheet length) = record { number = 2; detail = length }
answer_of (ForeignCode index) = record { number = 3; detail = index }
answer_of (NoRoom needed) = record { number = 4; detail = needed }
answer_of (BadScale scale) = record { number = 5; detail = scale }
answer_of (WrongCount came) = record { number = 6; detail = came }
answer_of (HighGrade index) = record { number = 7; detail = index }
answer_of (ForeignPhrase code) = record { number = 12; detail = code }

-- number and detail in decimal, parted by a blank
abbrev pub refusal_text : Refusal → List ℕ
refusal_text e = decimal (answer_of e).number ++ (32 ∷ decimal (answer_of e).detail)

-- done, or the refusal's number and detail
abbrev pub told : {A : Type 0} → Result A Refusal → Answer
told (Ok given) = done
told (Err e) = answer_of e

-- the answer of `value`
abbrev pub value_told : Result ℕ Refusal → Valued
value_told (Ok value) = record { answer = done; value = value }
value_told (Err e) = record { answer = answer_of e; value = 0 }

-- the answer of `implicant`: yes where no vector shows otherwise
abbrev pub verdict_told : Result (Option ℕ) Refusal → Asked
verdict_told (Ok None) = record { answer = done; verdict = true; vector = 0 }
verdict_told (Ok (Some vector)) = record { answer = done; verdict = false; vector = vector }
verdict_told (Err e) = record { answer = answer_of e; verdict = false; vector = 0 }

-- the answer of `list`, `join`, `meet` and `complement`
abbrev pub count_told : Result ℕ Refusal → Listed
count_told (Ok count) = record { answer = done; count = count }
count_told (Err e) = record { answer = answer_of e; count = 0 }
