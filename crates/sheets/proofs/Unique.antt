-- Any two answers that a promise allows for the same arguments are equal, and so are the lent buffers afterwards.
use mathlib.Core.Path.{◌≡◌, refl, sym, ap, ◌∙◌}
use mathlib.Core.Bool.{false, cond}
use mathlib.Core.List.{List}
use Prim.Native.Nat.{ℕ}
use borrow.Author.Tests.{ne_eqb}
use lib.Dec.{eqb}
use Rattle.std.specs.Prelude.{Option, Some, None, Result, Ok, Err}
use Rattle.fuzzy.specs.Primes.{joined, met}
use Rattle.sheets.specs.declared.refusal.Refusal.{Refusal}
use Rattle.sheets.specs.declared.refusal.Refusal.TheVariants.{BadVariables, LongSheet, ForeignCode, NoRoom, BadScale, WrongCount, HighGrade, ForeignPhrase}
use Rattle.sheets.specs.Told.{answer_of, value_told, verdict_told, count_told}
use Rattle.sheets.specs.Answer.{Answer, Valued, Asked, Listed}
use Rattle.sheets.proofs.Told.{refuses}
use Rattle.sheets.specs.Value.{ValuePromise}
use Rattle.sheets.specs.Implicant.{ImplicantPromise}
use Rattle.sheets.specs.Listing.{afterwards, PairPromise, ListPromise, JoinPromise, MeetPromise, ComplementPromise}

-- what equals one thing is equal
same : {A : Type 0} {a b c : A} → a ≡ c → b ≡ c → a ≡ b
same p q = p ∙ sym q

-- `value` has one answer
pub value_unique : (n : ℕ) (F : List ℕ) (s : ℕ) (v : List ℕ) (r q : Valued) (F₁ v₁ F₂ v₂ : List ℕ)
    → ValuePromise n F s v r F₁ v₁ → ValuePromise n F s v q F₂ v₂ → (r ≡ q) × (F₁ ≡ F₂) × (v₁ ≡ v₂)
value_unique n F s v r q F₁ v₁ F₂ v₂ a b =
    (same a.answered b.answered, same a.sheet_kept b.sheet_kept, same a.grades_kept b.grades_kept)

-- `implicant` has one answer
pub implicant_unique : (n : ℕ) (F : List ℕ) (p : ℕ) (r q : Asked) (F₁ F₂ : List ℕ)
    → ImplicantPromise n F p r F₁ → ImplicantPromise n F p q F₂ → (r ≡ q) × (F₁ ≡ F₂)
implicant_unique n F p r q F₁ F₂ a b = (same a.answered b.answered, same a.sheet_kept b.sheet_kept)

-- after equal answers a lent buffer holds the same
same_after : {r q : Listed} {b c : List ℕ} (new old : List ℕ) → r ≡ q → b ≡ afterwards r new old → c ≡ afterwards q new old → b ≡ c
same_after new old e p q = p ∙ ap (λ (a : Listed). afterwards a new old) e ∙ sym q

-- `list` has one answer
pub list_unique : (n : ℕ) (F cs fs : List ℕ) (r q : Listed) (F₁ cs₁ fs₁ F₂ cs₂ fs₂ : List ℕ)
    → ListPromise n F cs fs r F₁ cs₁ fs₁ → ListPromise n F cs fs q F₂ cs₂ fs₂ → (r ≡ q) × (F₁ ≡ F₂) × (cs₁ ≡ cs₂) × (fs₁ ≡ fs₂)
list_unique n F cs fs r q F₁ cs₁ fs₁ F₂ cs₂ fs₂ a b =
    let e = same a.answered b.answered in (
      e,
      same a.sheet_kept b.sheet_kept,
      same_after _ cs e a.codes_after b.codes_after,
      same_after _ fs e a.flags_after b.flags_after,
    )

-- so has a call that makes a list of two sheets
pair_unique : (made : ℕ → List ℕ → List ℕ → List ℕ) (n : ℕ) (A B cs : List ℕ) (r q : Listed) (A₁ B₁ cs₁ A₂ B₂ cs₂ : List ℕ)
    → PairPromise made n A B cs r A₁ B₁ cs₁ → PairPromise made n A B cs q A₂ B₂ cs₂ → (r ≡ q) × (A₁ ≡ A₂) × (B₁ ≡ B₂) × (cs₁ ≡ cs₂)
pair_unique made n A B cs r q A₁ B₁ cs₁ A₂ B₂ cs₂ a b =
    let e = same a.answered b.answered in (
      e,
      same a.first_kept b.first_kept,
      same a.second_kept b.second_kept,
      same_after _ cs e a.codes_after b.codes_after,
    )

-- `join` has one answer
pub join_unique : (n : ℕ) (A B cs : List ℕ) (r q : Listed) (A₁ B₁ cs₁ A₂ B₂ cs₂ : List ℕ)
    → JoinPromise n A B cs r A₁ B₁ cs₁ → JoinPromise n A B cs q A₂ B₂ cs₂ → (r ≡ q) × (A₁ ≡ A₂) × (B₁ ≡ B₂) × (cs₁ ≡ cs₂)
join_unique = pair_unique joined

-- `meet` has one answer
pub meet_unique : (n : ℕ) (A B cs : List ℕ) (r q : Listed) (A₁ B₁ cs₁ A₂ B₂ cs₂ : List ℕ)
    → MeetPromise n A B cs r A₁ B₁ cs₁ → MeetPromise n A B cs q A₂ B₂ cs₂ → (r ≡ q) × (A₁ ≡ A₂) × (B₁ ≡ B₂) × (cs₁ ≡ cs₂)
meet_unique = pair_unique met

-- `complement` has one answer
pub complement_unique : (n : ℕ) (A cs : List ℕ) (r q : Listed) (A₁ cs₁ A₂ cs₂ : List ℕ)
    → ComplementPromise n A cs r A₁ cs₁ → ComplementPromise n A cs q A₂ cs₂ → (r ≡ q) × (A₁ ≡ A₂) × (cs₁ ≡ cs₂)
complement_unique n A cs r q A₁ cs₁ A₂ cs₂ a b =
    let e = same a.answered b.answered in
    (e, same a.sheet_kept b.sheet_kept, same_after _ cs e a.codes_after b.codes_after)

-- A call's result is known from what it tells, so two results that tell answers which a promise allows are equal too.

-- the refusal with a number and a detail
refusal_of : Answer → Refusal
refusal_of a =
    cond (eqb a.number 1) (BadVariables a.detail) (cond (eqb a.number 2) (LongSheet a.detail) (cond (eqb a.number 3) (ForeignCode a.detail)
    (cond (eqb a.number 4) (NoRoom a.detail) (cond (eqb a.number 5) (BadScale a.detail) (cond (eqb a.number 6) (WrongCount a.detail)
    (cond (eqb a.number 7) (HighGrade a.detail) (ForeignPhrase a.detail)))))))

-- it is the one that tells them
refusal_back : (e : Refusal) → refusal_of (answer_of e) ≡ e
unfolding refusal_of
refusal_back (BadVariables given) = refl
refusal_back (LongSheet length) = refl
refusal_back (ForeignCode index) = refl
refusal_back (NoRoom needed) = refl
refusal_back (BadScale scale) = refl
refusal_back (WrongCount came) = refl
refusal_back (HighGrade index) = refl
refusal_back (ForeignPhrase code) = refl

-- and tells no done
told_number : (e : Refusal) → eqb (answer_of e).number 0 ≡ false
told_number e = ne_eqb (answer_of e).number 0 (refuses e)

-- the result of `value` that tells an answer
value_of : Valued → Result ℕ Refusal
value_of a = cond (eqb a.answer.number 0) (Ok a.value) (Err (refusal_of a.answer))

value_back : (r : Result ℕ Refusal) → value_of (value_told r) ≡ r
unfolding value_of
value_back (Ok x) = refl
value_back (Err e) = rw (told_number e, refusal_back e)

-- two results of `value` that tell the same are the same
pub value_told_once : (r q : Result ℕ Refusal) → value_told r ≡ value_told q → r ≡ q
value_told_once r q e = sym (value_back r) ∙ ap value_of e ∙ value_back q

-- the result of `implicant` that tells an answer
verdict_of : Asked → Result (Option ℕ) Refusal
verdict_of a = cond (eqb a.answer.number 0) (Ok (cond a.verdict None (Some a.vector))) (Err (refusal_of a.answer))

verdict_back : (r : Result (Option ℕ) Refusal) → verdict_of (verdict_told r) ≡ r
unfolding verdict_of
verdict_back (Ok None) = refl
verdict_back (Ok (Some x)) = refl
verdict_back (Err e) = rw (told_number e, refusal_back e)

-- two results of `implicant` that tell the same are the same
pub verdict_told_once : (r q : Result (Option ℕ) Refusal) → verdict_told r ≡ verdict_told q → r ≡ q
verdict_told_once r q e = sym (verdict_back r) ∙ ap verdict_of e ∙ verdict_back q

-- the result of a list call that tells an answer
count_of : Listed → Result ℕ Refusal
count_of a = cond (eqb a.answer.number 0) (Ok a.count) (Err (refusal_of a.answer))

count_back : (r : Result ℕ Refusal) → count_of (count_told r) ≡ r
unfolding count_of
count_back (Ok x) = refl
count_back (Err e) = rw (told_number e, refusal_back e)

-- two results of a list call that tell the same are the same
pub count_told_once : (r q : Result ℕ Refusal) → count_told r ≡ count_told q → r ≡ q
count_told_once r q e = sym (count_back r) ∙ ap count_of e ∙ count_back q
