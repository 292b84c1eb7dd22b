-- What the promises of `value` and `implicant` mean, in the user's words: a yes is nowhere above, a no is above at the vector named and at no lower one.
use mathlib.Core.Path.{◌≡◌, sym, ap, ◌∙◌}
use mathlib.Core.Bool.{true, false, false≢true}
use mathlib.Core.List.{List}
use Prim.Native.Nat.{ℕ, ◌^◌, ◌≤◌, ◌<◌}
use borrow.Author.Tests.{eq-eqb}
use lib.Dec.{eqb}
use Rattle.fuzzy.specs.Grade.{phrase_value, sheet_value}
use Rattle.fuzzy.specs.Function.{sheet_fn}
use Rattle.fuzzy.specs.Implicant.{Implicant}
use Rattle.fuzzy.specs.Vector.{vector, lowest, implicant?}
use Rattle.fuzzy.proofs.Search.{both_second}
use Rattle.fuzzy.proofs.Lowest.{lowest_least, lowest_above}
use Rattle.fuzzy.proofs.Verdict as Verdict
use Rattle.sheets.specs.Answer.{Valued, Asked}
use Rattle.sheets.specs.Refusal.{question_refusal}
use Rattle.sheets.specs.Value.{value_answer, ValuePromise}
use Rattle.sheets.specs.Implicant.{implicant_answer, ImplicantPromise}

-- a value that is given is the sheet's
pub value_right : (n : ℕ) (F : List ℕ) (s : ℕ) (v : List ℕ) (r : Valued) (F' v' : List ℕ)
    → ValuePromise n F s v r F' v' → r.answer.number ≡ 0 → r.value ≡ sheet_value s n F v
unfolding value_answer
value_right n F s v r F' v' h e =
    let z : (value_answer n F s v).answer.number ≡ 0 = rw h.answered at e in
    ap (λ (q : Valued). q.value) h.answered ∙ rw (eq-eqb _ 0 z)

module _ (n : ℕ) (F : List ℕ) (p : ℕ) (r : Asked) (F' : List ℕ) (h : ImplicantPromise n F p r F') where
  -- yes: on no scale from 2 is the phrase ever above the sheet
  pub yes_right : r.verdict ≡ true → Implicant n (sheet_fn n F) p
  unfolding implicant_answer
  yes_right y =
      (Verdict.sheet n F p).0 (both_second (eqb (question_refusal n F p).number 0) (implicant? n (sheet_fn n F) p) (rw h.answered at y))

  -- where the call is done and says no, the decision is no, and the vector is the lowest
  shown : r.answer.number ≡ 0 → r.verdict ≡ false → (implicant? n (sheet_fn n F) p ≡ false) × (r.vector ≡ lowest n (sheet_fn n F) p)
  unfolding implicant_answer
  shown e y = (no_it_is, ap (λ (q : Asked). q.vector) h.answered ∙ rw (in_order, no_it_is))
    where
      in_order : eqb (question_refusal n F p).number 0 ≡ true
      in_order = eq-eqb _ 0 (rw h.answered at e)

      no_it_is : implicant? n (sheet_fn n F) p ≡ false
      no_it_is = rw in_order at (rw h.answered at y)

  -- no, where the call is done: the phrase is above the sheet at the vector named, which is one of the 3 ^ n, and at no lower one
  pub no_right : r.answer.number ≡ 0 → r.verdict ≡ false
      → (r.vector < 3 ^ n)
      × (sheet_value 2 n F (vector n r.vector) < phrase_value 2 n p (vector n r.vector))
      × ((k : ℕ) → k < r.vector → phrase_value 2 n p (vector n k) ≤ sheet_value 2 n F (vector n k))
  no_right e y =
      let (no_it_is, is) = shown e y in
      let (bounded, there) = lowest_above n (sheet_fn n F) p no_it_is in
      rw is (bounded, there, lowest_least n (sheet_fn n F) p)

  -- so the phrase is no implicant
  pub no_means : r.answer.number ≡ 0 → r.verdict ≡ false → ¬ Implicant n (sheet_fn n F) p
  no_means e y i = false≢true (sym (shown e y).0 ∙ (Verdict.sheet n F p).1 i)
