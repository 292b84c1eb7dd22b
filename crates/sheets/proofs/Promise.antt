-- What the calls answer is what they promise, on a refusal and where they are done.
use mathlib.Core.Path.{◌≡◌, refl, sym, ap, ◌∙◌}
use mathlib.Core.List.{List, [], ◌∷◌}
use Prim.Native.Nat.{ℕ, ◌^◌, ◌≤◌, ◌<◌}
use native.Mathlib.Omega.{arith}
use borrow.Author.Tests.{eq-eqb, ne_eqb, ltb-true}
use lib.Dec.{ltb}
use lib.ListN.{length}
use Rattle.std.specs.Prelude.{Option, Some, None, Result, Ok, Err, IsErrAnd}
use Rattle.fuzzy.specs.Grade.{sheet_value}
use Rattle.fuzzy.specs.Function.{sheet_fn}
use Rattle.fuzzy.specs.Vector.{above, lowest, implicant?}
use Rattle.fuzzy.proofs.Search.{first_le}
use Rattle.sheets.specs.declared.refusal.Refusal.{Refusal}
use Rattle.sheets.specs.Answer.{Answer, Listed, done, first_of}
use Rattle.sheets.specs.Told.{answer_of, value_told, verdict_told}
use Rattle.sheets.specs.Refusal.{scaled, counted, graded, phrased, value_refusal, question_refusal}
use Rattle.sheets.specs.Value.{value_answer, ValuePromise}
use Rattle.sheets.specs.Implicant.{implicant_answer, Lowest, ImplicantPromise}
use Rattle.sheets.specs.Listing.{of_sheet, of_pair, listed_answer, afterwards, PairPromise}
use Rattle.sheets.proofs.Told.{refuses}
use Rattle.sheets.proofs.Refused.{err_early, ok_early, holds_of}
use Rattle.sheets.proofs.Published.{listed_room}

module _ (n : ℕ) (F : List ℕ) (s : ℕ) (v : List ℕ) where
  -- a refusal gives value 0
  value_err : (r : Result ℕ Refusal) (e : Refusal) → IsErrAnd r (λ y. y ≡ e) → answer_of e ≡ value_refusal n F s v → ValuePromise n F s v (value_told r) F v
  unfolding value_answer
  value_err (Ok x) e h is = absurd h
  value_err (Err x) e h is = record {
    answered = rw (← (ap answer_of h ∙ is), ne_eqb (answer_of x).number 0 (refuses x));
    sheet_kept = refl;
    grades_kept = refl;
  }

  -- the sheet is refused
  pub value_sheet_refused : (r : Result ℕ Refusal) (e : Refusal) → IsErrAnd r (λ y. y ≡ e) → answer_of e ≡ first_of (of_sheet n F)
      → ValuePromise n F s v (value_told r) F v
  unfolding value_refusal
  value_sheet_refused r e h is = value_err r e h (err_early e (of_sheet n F) (scaled s ∷ counted n v ∷ graded s v ∷ []) is)

  module _ (sheet : done ≡ first_of (of_sheet n F)) where
    -- the sheet passes, the grades are refused
    pub value_grades_refused : (r : Result ℕ Refusal) (e : Refusal) → IsErrAnd r (λ y. y ≡ e) → answer_of e ≡ first_of (scaled s ∷ counted n v ∷ graded s v ∷ [])
        → ValuePromise n F s v (value_told r) F v
    unfolding value_refusal
    value_grades_refused r e h is = value_err r e h (ok_early (answer_of e) (of_sheet n F) (scaled s ∷ counted n v ∷ graded s v ∷ []) sheet is)

    -- both pass
    pub value_done : done ≡ first_of (scaled s ∷ counted n v ∷ graded s v ∷ []) → (x : ℕ) → x ≡ sheet_value s n F v
        → ValuePromise n F s v (value_told (Ok x)) F v
    unfolding value_answer value_refusal
    value_done is x ex =
        let all = ok_early done (of_sheet n F) (scaled s ∷ counted n v ∷ graded s v ∷ []) sheet is in
        record { answered = rw (← all, ex); sheet_kept = refl; grades_kept = refl }

-- a phrase that is not refused is one over n variables
pub phrase_below : (n p : ℕ) → done ≡ phrased n p → p < 4 ^ n
phrase_below n p is = ltb-true p (4 ^ n) (holds_of (ltb p (4 ^ n)) 12 p (omega arith) (sym (ap (λ (a : Answer). a.number) is)))

module _ (n : ℕ) (F : List ℕ) (p : ℕ) where
  -- a refusal gives verdict no and vector 0
  question_err : (r : Result (Option ℕ) Refusal) (e : Refusal) → IsErrAnd r (λ y. y ≡ e) → answer_of e ≡ question_refusal n F p
      → ImplicantPromise n F p (verdict_told r) F
  unfolding implicant_answer
  question_err (Ok x) e h is = absurd h
  question_err (Err x) e h is =
      record { answered = rw (← (ap answer_of h ∙ is), ne_eqb (answer_of x).number 0 (refuses x)); sheet_kept = refl }

  -- the sheet is refused
  pub question_sheet_refused : (r : Result (Option ℕ) Refusal) (e : Refusal) → IsErrAnd r (λ y. y ≡ e) → answer_of e ≡ first_of (of_sheet n F)
      → ImplicantPromise n F p (verdict_told r) F
  unfolding question_refusal
  question_sheet_refused r e h is = question_err r e h (err_early e (of_sheet n F) (phrased n p ∷ []) is)

  module _ (sheet : done ≡ first_of (of_sheet n F)) where
    -- the sheet passes, the phrase is refused
    pub phrase_refused : (r : Result (Option ℕ) Refusal) (e : Refusal) → IsErrAnd r (λ y. y ≡ e) → answer_of e ≡ first_of (phrased n p ∷ [])
        → ImplicantPromise n F p (verdict_told r) F
    unfolding question_refusal
    phrase_refused r e h is = question_err r e h (ok_early (answer_of e) (of_sheet n F) (phrased n p ∷ []) sheet is)

    module _ (phrase : done ≡ first_of (phrased n p ∷ [])) where
      -- no vector is a yes, and a vector below 3 ^ n shows the no
      pub question_done : (found : Option ℕ) → Lowest n F p found → ImplicantPromise n F p (verdict_told (Ok found)) F
      unfolding implicant_answer question_refusal implicant?
      question_done None l =
          let all = ok_early done (of_sheet n F) (phrased n p ∷ []) sheet phrase in
          let most : lowest n (sheet_fn n F) p ≤ 3 ^ n = unfold lowest in first_le (above n (sheet_fn n F) p) (3 ^ n) in
          record { answered = rw (← all, eq-eqb (lowest n (sheet_fn n F) p) (3 ^ n) (omega arith)); sheet_kept = refl }
      question_done (Some x) (ex, l) =
          let all = ok_early done (of_sheet n F) (phrased n p ∷ []) sheet phrase in
          record { answered = rw (← all, ← ex, ne_eqb x (3 ^ n) (λ h. omega arith)); sheet_kept = refl }

module _ (made : ℕ → List ℕ → List ℕ → List ℕ) (n : ℕ) (A B cs : List ℕ) where
  -- both pass, and what was made of them is published
  pub pair_published : done ≡ first_of (of_pair n A B) → (r : Listed) (ps cs' : List ℕ) → ps ≡ made n A B → r ≡ listed_answer [] ps (length cs) → cs' ≡ afterwards r ps cs
      → PairPromise made n A B cs r A B cs'
  pair_published is r ps cs' same answer after = record {
    answered = listed_room (of_pair n A B) (made n A B) (length cs) is r (rw same at answer);
    first_kept = refl;
    second_kept = refl;
    codes_after = rw same at after;
  }
