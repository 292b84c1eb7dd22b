-- What a list call gave, once it is done: the list that it promises, at the front of the lent buffer.
--   Begins r new old after   r counts the entries of new, the buffer begins with them, and the rest is as it came
--   ListGave n F ps fs       a call of `list` with the sheet F was done and gave the list ps with the flags fs
--   PairGave made n A B ps   a call that makes a list of these two sheets was done and gave the list ps
--   JoinGave n A B ps, MeetGave n A B ps, ComplementGave n A ps
--                            a call of `join`, `meet`, `complement` with these sheets was done and gave the list ps
--   Gave n ps                one of the four calls gave the list ps
use mathlib.Core.Path.{◌≡◌, refl, sym, ap, ◌∙◌}
use mathlib.Core.List.{List, [], ◌∷◌, ◌++◌}
use Prim.Native.Nat.{ℕ}
use borrow.Author.Tests.{eq-eqb, ne_eqb}
use lib.ListN.{length, take, drop}
use lib.Seq.{take_at, drop_at}
use Rattle.fuzzy.specs.Function.{sheet_fn}
use Rattle.fuzzy.specs.Primes.{listed, joined, met, complemented}
use Rattle.fuzzy.specs.Cover.{flags}
use Rattle.fuzzy.proofs.Cover.{flags_length}
use Rattle.rows.specs.Read.{written}
use Rattle.sheets.specs.Answer.{Answer, Listed, first_of}
use Rattle.sheets.specs.Listing.{fitted, of_sheet, of_pair, listed_answer, afterwards, PairPromise, ListPromise, JoinPromise, MeetPromise, ComplementPromise}
use Rattle.sheets.proofs.Checks.{Done, Refused}

-- r counts the entries of new, the buffer that held old begins with them, and the rest is as it came
abbrev pub Begins : Listed → List ℕ → List ℕ → List ℕ → Type 0
Begins r new old after = (r.count ≡ length new) × (take r.count after ≡ new) × (drop r.count after ≡ drop r.count old)

module _ (checks : List Answer) (ps : List ℕ) (room : ℕ) {r : Listed} (is : r ≡ listed_answer checks ps room) where
  -- a list call answers the first of its checks that applies, the room last
  pub first_answers : r.answer ≡ first_of (checks ++ (fitted (length ps) room ∷ []))
  unfolding listed_answer
  first_answers = ap (λ (q : Listed). q.answer) is

  -- a refused list call gives no entry
  pub none_given : Refused r.answer → r.count ≡ 0
  unfolding listed_answer
  none_given d =
      let z : Refused (listed_answer checks ps room).answer = rw is at d in
      ap (λ (q : Listed). q.count) is ∙ rw (ne_eqb _ 0 z)

  -- a list call that is done gives every entry
  all_given : Done r.answer → r.count ≡ length ps
  unfolding listed_answer
  all_given d =
      let z : Done (listed_answer checks ps room).answer = rw is at d in
      ap (λ (q : Listed). q.count) is ∙ rw (eq-eqb _ 0 z)

  -- its buffer begins with them
  pub begins : (new old after : List ℕ) → length new ≡ length ps → after ≡ afterwards r new old → Done r.answer → Begins r new old after
  unfolding afterwards written
  begins new old after fits so d = (
    sym enough,
    ap (take r.count) now_holds ∙ take_at new (drop (length new) old) r.count enough,
    ap (drop r.count) now_holds ∙ drop_at new (drop (length new) old) r.count enough ∙ ap (λ (k : ℕ). drop k old) enough,
  )
    where
      enough : length new ≡ r.count
      enough = fits ∙ sym (all_given d)

      now_holds : after ≡ new ++ drop (length new) old
      now_holds = so ∙ rw (eq-eqb r.answer.number 0 d)

-- a call of `list` with the sheet F was done and gave the list ps with the flags fs
pub record ListGave (n : ℕ) (F ps fs : List ℕ) : Type 0 where
  pub codes_lent : List ℕ
  pub flags_lent : List ℕ
  pub answer : Listed
  pub sheet_after : List ℕ
  pub codes_after : List ℕ
  pub flags_after : List ℕ
  pub promised : ListPromise n F codes_lent flags_lent answer sheet_after codes_after flags_after
  pub is_done : Done answer.answer
  pub codes_given : ps ≡ take answer.count codes_after
  pub flags_given : fs ≡ take answer.count flags_after

-- a call that makes a list of the sheets A and B was done and gave the list ps
pub record PairGave (made : ℕ → List ℕ → List ℕ → List ℕ) (n : ℕ) (A B ps : List ℕ) : Type 0 where
  pub codes_lent : List ℕ
  pub answer : Listed
  pub first_after : List ℕ
  pub second_after : List ℕ
  pub codes_after : List ℕ
  pub promised : PairPromise made n A B codes_lent answer first_after second_after codes_after
  pub is_done : Done answer.answer
  pub codes_given : ps ≡ take answer.count codes_after

-- a call of `join` with the sheets A and B was done and gave the list ps
abbrev pub JoinGave : ℕ → List ℕ → List ℕ → List ℕ → Type 0
JoinGave = PairGave joined

-- a call of `meet` with the sheets A and B was done and gave the list ps
abbrev pub MeetGave : ℕ → List ℕ → List ℕ → List ℕ → Type 0
MeetGave = PairGave met

-- a call of `complement` with the sheet A was done and gave the list ps
pub record ComplementGave (n : ℕ) (A ps : List ℕ) : Type 0 where
  pub codes_lent : List ℕ
  pub answer : Listed
  pub sheet_after : List ℕ
  pub codes_after : List ℕ
  pub promised : ComplementPromise n A codes_lent answer sheet_after codes_after
  pub is_done : Done answer.answer
  pub codes_given : ps ≡ take answer.count codes_after

-- what a done call left at the front of its buffers is what it gave
pub list_gave : (n : ℕ) (F cs fs : List ℕ) (r : Listed) (F' cs' fs' : List ℕ)
    → ListPromise n F cs fs r F' cs' fs' → Done r.answer → ListGave n F (take r.count cs') (take r.count fs')
list_gave n F cs fs r F' cs' fs' h d = record {
  codes_lent = cs;
  flags_lent = fs;
  answer = r;
  sheet_after = F';
  codes_after = cs';
  flags_after = fs';
  promised = h;
  is_done = d;
  codes_given = refl;
  flags_given = refl;
}

-- the same of a call that makes a list of two sheets
pair_gave : (made : ℕ → List ℕ → List ℕ → List ℕ) (n : ℕ) (A B cs : List ℕ) (r : Listed) (A' B' cs' : List ℕ)
    → PairPromise made n A B cs r A' B' cs' → Done r.answer → PairGave made n A B (take r.count cs')
pair_gave made n A B cs r A' B' cs' h d =
    record { codes_lent = cs; answer = r; first_after = A'; second_after = B'; codes_after = cs'; promised = h; is_done = d; codes_given = refl }

-- the same of `join`
pub join_gave : (n : ℕ) (A B cs : List ℕ) (r : Listed) (A' B' cs' : List ℕ)
    → JoinPromise n A B cs r A' B' cs' → Done r.answer → JoinGave n A B (take r.count cs')
join_gave = pair_gave joined

-- the same of `meet`
pub meet_gave : (n : ℕ) (A B cs : List ℕ) (r : Listed) (A' B' cs' : List ℕ)
    → MeetPromise n A B cs r A' B' cs' → Done r.answer → MeetGave n A B (take r.count cs')
meet_gave = pair_gave met

-- the same of `complement`
pub complement_gave : (n : ℕ) (A cs : List ℕ) (r : Listed) (A' cs' : List ℕ)
    → ComplementPromise n A cs r A' cs' → Done r.answer → ComplementGave n A (take r.count cs')
complement_gave n A cs r A' cs' h d =
    record { codes_lent = cs; answer = r; sheet_after = A'; codes_after = cs'; promised = h; is_done = d; codes_given = refl }

-- some call over n variables was done and gave the list ps
pub data Gave (n : ℕ) (ps : List ℕ) : Type 0 where
  by_list : (F fs : List ℕ) → ListGave n F ps fs → Gave n ps
  by_join : (A B : List ℕ) → JoinGave n A B ps → Gave n ps
  by_meet : (A B : List ℕ) → MeetGave n A B ps → Gave n ps
  by_complement : (A : List ℕ) → ComplementGave n A ps → Gave n ps

-- `list` gives the primes of the sheet
pub list_list : {n : ℕ} {F ps fs : List ℕ} → ListGave n F ps fs → ps ≡ listed n F
list_list {n = n} {F = F} c =
    let h = c.promised in
    c.codes_given ∙ (begins (of_sheet n F) (listed n F) _ h.answered (listed n F) _ _ refl h.codes_after c.is_done).1

-- and their flags
pub list_flags : {n : ℕ} {F ps fs : List ℕ} → ListGave n F ps fs → fs ≡ flags n (sheet_fn n F)
list_flags {n = n} {F = F} c =
    let h = c.promised in
    let one_each = flags_length n (sheet_fn n F) in
    c.flags_given ∙ (begins (of_sheet n F) (listed n F) _ h.answered (flags n (sheet_fn n F)) _ _ one_each h.flags_after c.is_done).1

-- a call that makes a list of two sheets gives what it makes
pair_list : (made : ℕ → List ℕ → List ℕ → List ℕ) (n : ℕ) (A B ps : List ℕ) → PairGave made n A B ps → ps ≡ made n A B
pair_list made n A B ps c =
    let h = c.promised in
    c.codes_given ∙ (begins (of_pair n A B) (made n A B) _ h.answered (made n A B) _ _ refl h.codes_after c.is_done).1

-- `join` gives the primes of the larger value
pub join_list : {n : ℕ} {A B ps : List ℕ} → JoinGave n A B ps → ps ≡ joined n A B
join_list c = pair_list joined _ _ _ _ c

-- `meet` gives the primes of the smaller value
pub meet_list : {n : ℕ} {A B ps : List ℕ} → MeetGave n A B ps → ps ≡ met n A B
meet_list c = pair_list met _ _ _ _ c

-- `complement` gives the primes of the complement value
pub complement_list : {n : ℕ} {A ps : List ℕ} → ComplementGave n A ps → ps ≡ complemented n A
complement_list {n = n} {A = A} c =
    let h = c.promised in
    c.codes_given ∙ (begins (of_sheet n A) (complemented n A) _ h.answered (complemented n A) _ _ refl h.codes_after c.is_done).1
