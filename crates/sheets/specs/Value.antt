-- The value of a sheet.
--   value_answer n F s v                 the answer: the sheet's value, 0 on a refusal
--   ValuePromise n F s v r F' v'         r is the answer, and the lent sheet and grades are afterwards as they came
use Rattle.std.specs.Prelude.{◌≡◌, ℕ, cond, List, eqb}
use Rattle.fuzzy.specs.Grade.{sheet_value}
use Rattle.sheets.specs.Answer.{Valued}
use Rattle.sheets.specs.Refusal.{value_refusal}

-- the answer: the sheet's value, 0 on a refusal
unfoldable pub value_answer : ℕ → List ℕ → ℕ → List ℕ → Valued
value_answer n F s v =
    let a = value_refusal n F s v in
    record { answer = a; value = cond (eqb a.number 0) (sheet_value s n F v) 0 }

-- r is the answer, and the lent sheet and grades are afterwards as they came
pub record ValuePromise (n : ℕ) (F : List ℕ) (s : ℕ) (v : List ℕ) (r : Valued) (F' v' : List ℕ) : Type 0 where
  pub answered : r ≡ value_answer n F s v
  pub sheet_kept : F' ≡ F
  pub grades_kept : v' ≡ v
