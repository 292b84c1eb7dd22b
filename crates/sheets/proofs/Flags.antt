-- What `list` leaves in its buffers: the primes as they were read, and their flags written one after the other.
use mathlib.Core.Path.{◌≡◌, refl, sym, ap, ◌∙◌}
use mathlib.Core.Bool.{Bool, true, false, false≢true}
use mathlib.Core.List.{List, [], ◌++◌}
use Prim.Native.Nat.{ℕ, ◌+◌, ◌-◌, ◌≤◌, ◌<◌, min}
use native.Mathlib.Nat.{lt_of_lt_of_le, le_trans, min-le_left, min-le_right, pow-le-pow_right}
use native.Mathlib.Decide.{ℕ_discrete, dec_le}
use borrow.Author.Tests.{eq-eqb, le-leb}
use native.Mathlib.Omega.{arith}
use mir.Val.{bool_byte}
use lib.ListN.{length, get_or, set, take, drop, length-set, length-append, length-drop, get_or-append}
use lib.Seq.{get_or-set_same, get_or-set_other, get_or-append-add, get_or-drop, ext_get_or}
use lib.Seq.{take-append_seam}
use Rattle.fuzzy.specs.Function.{Fn}
use Rattle.fuzzy.specs.Primes.{primes}
use Rattle.fuzzy.specs.Cover.{cover, flags}
use Rattle.fuzzy.proofs.Cover.{flags_length}
use Rattle.rows.proofs.Stage.{square_lt}
use Rattle.rows.specs.Square.{square}
use Rattle.rows.specs.Pass.{Held}
use Rattle.rows.specs.Read.{marks_of, written, read_into}
use Rattle.sheets.specs.Answer.{Listed}
use Rattle.sheets.specs.Listing.{listed_answer, afterwards}
use Rattle.sheets.specs.Walk.{Flagged, Reads}
use Rattle.sheets.proofs.Published.{done_fits}
use Rattle.sheets.proofs.Walked.{flags_square, prime_lt}

-- a code's flag is its mark
held_square : (kept : List ℕ) (c : ℕ) (b : Bool) → c < 4096 → Held kept c b → bool_byte b ≡ square kept c
held_square kept c true l h = sym (h.0 refl).1
held_square kept c false l h = at (ℕ_discrete (square kept c) 1)
  where
    at : Dec (square kept c ≡ 1) → 0 ≡ square kept c
    at (yes e) = absurd (false≢true (h.1 (l, e)))
    at (no d) = omega (arith, square_lt kept c)

-- one flag more
pub flagged_next : (kept codes old new : List ℕ) (i : ℕ) (b : Bool) → i < length old → Flagged kept codes i old new
    → Held kept (get_or codes i 0) b → Flagged kept codes (i + 1) old (set new i (bool_byte b))
flagged_next kept codes old new i b l (same, before, after) h = (
  length-set new i (bool_byte b) ∙ same,
  λ j lj lc. at j lj lc (ℕ_discrete j i),
  λ j lj. get_or-set_other new i j (bool_byte b) 0 (λ e. absurd (omega arith)) ∙ after j (omega arith),
)
  where
    at : (j : ℕ) → j < i + 1 → get_or codes j 0 < 4096 → Dec (j ≡ i) → get_or (set new i (bool_byte b)) j 0 ≡ square kept (get_or codes j 0)
    at j lj lc (yes e) = rw e (get_or-set_same new i (bool_byte b) 0 (omega (arith, same)) ∙ held_square kept (get_or codes i 0) b (rw e at lc) h)
    at j lj lc (no d) = get_or-set_other new i j (bool_byte b) 0 d ∙ before j (omega arith) lc

-- writing a list at the front of a buffer with room for it leaves the buffer's length
written_length : (new old : List ℕ) → length new ≤ length old → length (written new old) ≡ length old
unfolding written
written_length new old l =
    let e = length-append new (drop (length new) old) in
    let d = length-drop (length new) old in omega (arith, e, d)

-- the front of what was read is the list
pub front_read : (ps cs : List ℕ) (count : ℕ) → count ≡ length ps → length ps ≤ length cs → take count (read_into ps cs) ≡ ps
unfolding read_into written
front_read ps cs count e l = rw (e, le-leb (length ps) (length cs) l) (take-append_seam ps (drop (length ps) cs))

-- a list that is the primes reads them
pub reads : (n : ℕ) (f : Fn) (codes : List ℕ) → codes ≡ primes n f → Reads n f codes (length codes)
reads n f codes e = (ap length (sym e), λ i l. ap (λ (xs : List ℕ). get_or xs i 0) e)

module _ (ps cs fs : List ℕ) (room : ℕ) (short : room ≡ min (length cs) (length fs)) (r : Listed) (e : r ≡ listed_answer [] ps room)
    (done : r.answer.number ≡ 0) where
  -- where `list` is done the list fits the codes' buffer, and so it does once it was read
  pub codes_fit : (length ps ≤ length cs) × (r.count ≤ length (read_into ps cs))
  unfolding read_into
  codes_fit =
      let (l, is) = done_fits ps room r e done in
      let fits : length ps ≤ length cs = le_trans (rw short at l) (min-le_left (length cs) (length fs)) in
      let kept = written_length ps cs fits in
      (fits, rw (is, le-leb (length ps) (length cs) fits, kept) fits)

  -- and the flags' buffer
  pub flags_fit : r.count ≤ length fs
  flags_fit =
      let (l, is) = done_fits ps room r e done in
      rw is (le_trans (rw short at l) (min-le_right (length cs) (length fs)))

-- the flags that were written are those of the walk
pub flags_done : (n : ℕ) (f : Fn) (kept codes fs fs' : List ℕ) (r : Listed) → n ≤ 6 → marks_of kept 4096 ≡ cover n f → codes ≡ primes n f
    → length codes ≤ length fs → r.answer.number ≡ 0 → Flagged kept codes (length codes) fs fs' → fs' ≡ afterwards r (flags n f) fs
unfolding afterwards written
flags_done n f kept codes fs fs' r few is listed fits done (same, before, after) =
    rw (eq-eqb r.answer.number 0 done) (ext_get_or 0 fs' new (same ∙ sym long) (λ i l. entry i (dec_le (length codes) i)))
  where
    new : List ℕ
    new = flags n f ++ drop (length (flags n f)) fs

    many : length (flags n f) ≡ length codes
    many = flags_length n f ∙ ap length (sym listed)

    long : length new ≡ length fs
    long = let l : length (flags n f) ≤ length fs = rw many fits in written_length (flags n f) fs l

    below : (i : ℕ) → i < length codes → get_or fs' i 0 ≡ get_or new i 0
    below i l =
        let lp : i < length (primes n f) = rw listed at l in
        let at : get_or codes i 0 ≡ get_or (primes n f) i 0 = rw listed in
        let six : get_or codes i 0 < 4096 = rw at (lt_of_lt_of_le (prime_lt n f i lp) (pow-le-pow_right {n = 4} (omega arith) {j = 6} few)) in
        before i l six ∙ ap (square kept) at ∙ sym (flags_square n f kept is few i lp)
        ∙ sym (get_or-append (flags n f) (drop (length (flags n f)) fs) 0 i (rw many l))

    beyond : (j : ℕ) → get_or fs' (length codes + j) 0 ≡ get_or new (length codes + j) 0
    beyond j =
        after (length codes + j) (omega arith)
        ∙ rw (← many) (sym (get_or-append-add (flags n f) (drop (length (flags n f)) fs) j 0 ∙ get_or-drop (length (flags n f)) fs j 0))

    entry : (i : ℕ) → Dec (length codes ≤ i) → get_or fs' i 0 ≡ get_or new i 0
    entry i (yes l) = let e : i ≡ length codes + (i - length codes) = omega arith in rw e (beyond (i - length codes))
    entry i (no d) = below i (omega arith)
