-- What a list call answers, and what its buffer holds afterwards, from the checks and from what was read.
use mathlib.Core.Path.{◌≡◌, refl, sym, ap, ◌∙◌}
use mathlib.Core.List.{List, [], ◌∷◌}
use Prim.Native.Nat.{ℕ, ◌≤◌}
use native.Mathlib.Omega.{arith}
use borrow.Author.Tests.{eq-eqb, ne_eqb, le-leb, leb-true}
use lib.Dec.{leb}
use lib.ListN.{length}
use Rattle.std.specs.Prelude.{Result, Ok, Err, IsErrAnd}
use Rattle.rows.specs.Read.{read_into}
use Rattle.sheets.specs.declared.refusal.Refusal.{Refusal}
use Rattle.sheets.specs.Answer.{Answer, Listed, done, first_of}
use Rattle.sheets.specs.Told.{answer_of, count_told}
use Rattle.sheets.specs.Listing.{fitted, listed_answer, afterwards}
use Rattle.sheets.proofs.Told.{refuses}
use Rattle.sheets.proofs.Refused.{err_early, ok_early, last_link, holds_of}

-- a result that hands a refusal on tells it, with no entry
pub told_no_count : (r : Result ℕ Refusal) (e : Refusal) → IsErrAnd r (λ y. y ≡ e) → count_told r ≡ record { answer = answer_of e; count = 0 }
told_no_count (Ok x) e h = absurd h
told_no_count (Err x) e h = ap (λ (y : Refusal). count_told (Err y)) h

module _ (checks : List Answer) (ps : List ℕ) (room : ℕ) where
  -- a refusal of the sheets stands, with no entry
  pub listed_err : (e : Refusal) → answer_of e ≡ first_of checks → record { answer = answer_of e; count = 0 } ≡ listed_answer checks ps room
  unfolding listed_answer
  listed_err e is = rw (← (err_early e checks (fitted (length ps) room ∷ []) is), ne_eqb (answer_of e).number 0 (refuses e))

  -- where the sheets are in order the room decides
  pub listed_room : done ≡ first_of checks → (r : Listed) → r ≡ listed_answer [] ps room → r ≡ listed_answer checks ps room
  unfolding listed_answer
  listed_room is r e = e ∙ rw (ok_early (first_of (fitted (length ps) room ∷ [])) checks (fitted (length ps) room ∷ []) is refl)

-- a refusal leaves a buffer as it came
pub afterwards_refused : (r : Listed) (new old : List ℕ) → (r.answer.number ≡ 0 → ⊥) → afterwards r new old ≡ old
unfolding afterwards
afterwards_refused r new old d = rw (ne_eqb r.answer.number 0 d)

-- so does one that is handed on
pub afterwards_err : (e : Refusal) (new old : List ℕ) → old ≡ afterwards (record { answer = answer_of e; count = 0 }) new old
afterwards_err e new old = sym (afterwards_refused (record { answer = answer_of e; count = 0 }) new old (refuses e))

-- where the call is done and there is room, the list is written
pub written_done : (r : Listed) (ps old : List ℕ) → r.answer.number ≡ 0 → length ps ≤ length old → read_into ps old ≡ afterwards r ps old
unfolding afterwards read_into
written_done r ps old z l = rw (eq-eqb r.answer.number 0 z, le-leb (length ps) (length old) l)

module _ (ps : List ℕ) (room : ℕ) where
  module _ (a : Answer) (is : a ≡ fitted (length ps) room) where
    -- the room is checked alone
    alone : a ≡ first_of (fitted (length ps) room ∷ [])
    alone = last_link a (leb (length ps) room) 4 (length ps) (omega arith) is

    -- without room the answer has no entry
    pub no_room : (a.number ≡ 0 → ⊥) → record { answer = a; count = 0 } ≡ listed_answer [] ps room
    unfolding listed_answer
    no_room d = rw (← alone, ne_eqb a.number 0 d)

    -- with room it has as many as the list
    pub enough_room : a.number ≡ 0 → record { answer = a; count = length ps } ≡ listed_answer [] ps room
    unfolding listed_answer
    enough_room z = rw (← alone, eq-eqb a.number 0 z)

  -- where the room alone is checked and the call is done, the list fits, and its length is the count
  pub done_fits : (r : Listed) → r ≡ listed_answer [] ps room → r.answer.number ≡ 0 → (length ps ≤ room) × (r.count ≡ length ps)
  unfolding listed_answer
  done_fits r e z =
      let first = first_of (fitted (length ps) room ∷ []) in
      let zero : first.number ≡ 0 = rw e at z in
      let only : fitted (length ps) room ≡ first = last_link (fitted (length ps) room) (leb (length ps) room) 4 (length ps) (omega arith) refl in (
        leb-true (length ps) room (holds_of (leb (length ps) room) 4 (length ps) (omega arith) (ap (λ (b : Answer). b.number) only ∙ zero)),
        ap (λ (q : Listed). q.count) e ∙ rw (eq-eqb first.number 0 zero),
      )
