-- The implicant question.
--   implicant_answer n F p          the answer: yes with vector 0, or no with the lowest vector at which the phrase is above; no and 0 on a refusal
--   Lowest n F p found              found is the lowest vector at which the phrase is above, none where there is none
--   ImplicantPromise n F p r F'     r is the answer, and the lent sheet is afterwards as it came
use Rattle.std.specs.Prelude.{◌≡◌, ℕ, ◌^◌, ◌≤◌, ◌<◌, cond, ◌&&◌, List, Option, Some, None, eqb}
use Rattle.fuzzy.specs.Function.{sheet_fn}
use Rattle.fuzzy.specs.Vector.{lowest, implicant?}
use Rattle.sheets.specs.Answer.{Asked}
use Rattle.sheets.specs.Refusal.{question_refusal}

-- the answer: yes with vector 0, or no with the lowest vector at which the phrase is above; no and 0 on a refusal
unfoldable pub implicant_answer : ℕ → List ℕ → ℕ → Asked
implicant_answer n F p =
    let a = question_refusal n F p in
    let holds = implicant? n (sheet_fn n F) p in
    record {
      answer = a;
      verdict = eqb a.number 0 && holds;
      vector = cond (eqb a.number 0) (cond holds 0 (lowest n (sheet_fn n F) p)) 0;
    }

-- found is the lowest vector at which the phrase is above, none where there is none
abbrev pub Lowest : ℕ → List ℕ → ℕ → Option ℕ → Type 0
Lowest n F p None = 3 ^ n ≤ lowest n (sheet_fn n F) p
Lowest n F p (Some v) = (v ≡ lowest n (sheet_fn n F) p) × (v < 3 ^ n)

-- r is the answer, and the lent sheet is afterwards as it came
pub record ImplicantPromise (n : ℕ) (F : List ℕ) (p : ℕ) (r : Asked) (F' : List ℕ) : Type 0 where
  pub answered : r ≡ implicant_answer n F p
  pub sheet_kept : F' ≡ F
