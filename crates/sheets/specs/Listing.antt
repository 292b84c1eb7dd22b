-- Lists: the answers of `list`, `join`, `meet` and `complement`, what the lent buffers hold afterwards, and their promises.
--   fitted k room                 4: the result does not fit the room; the entries needed
--   of_sheet n F, of_pair n A B   the checks on one sheet, and on two, in document 01's order
--   listed_answer checks ps room  the answer: how many entries the list ps has, 0 on a refusal
--   afterwards r new old          a lent buffer that held old, once the answer is given: new at its front where the call is done, else as it came
--   PairPromise made              the promise of a call that makes a list of two sheets
--   ListPromise, JoinPromise, MeetPromise, ComplementPromise
--                                 r is the answer, the sheets are as they came, and the buffers hold the list (and the flags) where the call is done
use Rattle.std.specs.Prelude.{◌≡◌, cond, ℕ, min, List, [], ◌∷◌, ◌++◌, eqb, leb, length}
use Rattle.fuzzy.specs.Function.{sheet_fn}
use Rattle.fuzzy.specs.Primes.{listed, joined, met, complemented}
use Rattle.fuzzy.specs.Cover.{flags}
use Rattle.rows.specs.Read.{written}
use Rattle.sheets.specs.Answer.{Answer, Listed, unless, first_of}
use Rattle.sheets.specs.Refusal.{variables, phrases, codes}

-- 4: the result does not fit the room; the entries needed
abbrev pub fitted : ℕ → ℕ → Answer
fitted k room = unless (leb k room) 4 k

-- the checks on one sheet, in document 01's order
abbrev pub of_sheet : ℕ → List ℕ → List Answer
of_sheet n F = variables n ∷ phrases F ∷ codes n F ∷ []

-- the checks on two sheets, in document 01's order
abbrev pub of_pair : ℕ → List ℕ → List ℕ → List Answer
of_pair n A B = variables n ∷ phrases A ∷ phrases B ∷ codes n A ∷ codes n B ∷ []

-- the answer: how many entries the list has, 0 on a refusal
unfoldable pub listed_answer : List Answer → List ℕ → ℕ → Listed
listed_answer checks ps room =
    let a = first_of (checks ++ (fitted (length ps) room ∷ [])) in
    record { answer = a; count = cond (eqb a.number 0) (length ps) 0 }

-- a lent buffer that held old, once the answer is given
unfoldable pub afterwards : Listed → List ℕ → List ℕ → List ℕ
afterwards r new old = cond (eqb r.answer.number 0) (written new old) old

-- what `list` promises: the room is the shorter of the two buffers
pub record ListPromise (n : ℕ) (F cs fs : List ℕ) (r : Listed) (F' cs' fs' : List ℕ) : Type 0 where
  pub answered : r ≡ listed_answer (of_sheet n F) (listed n F) (min (length cs) (length fs))
  pub sheet_kept : F' ≡ F
  pub codes_after : cs' ≡ afterwards r (listed n F) cs
  pub flags_after : fs' ≡ afterwards r (flags n (sheet_fn n F)) fs

-- what a call that makes a list of two sheets promises
pub record PairPromise (made : ℕ → List ℕ → List ℕ → List ℕ) (n : ℕ) (A B cs : List ℕ) (r : Listed) (A' B' cs' : List ℕ) : Type 0 where
  pub answered : r ≡ listed_answer (of_pair n A B) (made n A B) (length cs)
  pub first_kept : A' ≡ A
  pub second_kept : B' ≡ B
  pub codes_after : cs' ≡ afterwards r (made n A B) cs

-- what `join` promises
abbrev pub JoinPromise : ℕ → List ℕ → List ℕ → List ℕ → Listed → List ℕ → List ℕ → List ℕ → Type 0
JoinPromise = PairPromise joined

-- what `meet` promises
abbrev pub MeetPromise : ℕ → List ℕ → List ℕ → List ℕ → Listed → List ℕ → List ℕ → List ℕ → Type 0
MeetPromise = PairPromise met

-- what `complement` promises
pub record ComplementPromise (n : ℕ) (A cs : List ℕ) (r : Listed) (A' cs' : List ℕ) : Type 0 where
  pub answered : r ≡ listed_answer (of_sheet n A) (complemented n A) (length cs)
  pub sheet_kept : A' ≡ A
  pub codes_after : cs' ≡ afterwards r (complemented n A) cs
