-- Writing the marked codes row by row, each row's after those before, writes them all at the front of the buffer.
-- What is left to write from row i on is the row's codes and then what is left from row i + 1 on (`left_more`).
use mathlib.Core.Path.{◌≡◌, refl, sym, ap, ◌∙◌}
use mathlib.Core.List.{List, [], ◌∷◌, ◌++◌}
use Prim.Native.Nat.{ℕ, suc, ◌+◌, ◌-◌, ◌*◌, ◌≤◌, ◌<◌}
use native.Mathlib.Omega.{arith}
use borrow.Author.Tests.{le-leb, lt-leb}
use lib.ListN.{length, get_or, length-append}
use lib.Seq.{sets, sets-eq}
use Rattle.fuzzy.specs.Primes.{select}
use Rattle.rows.proofs.Selected.{select_split, row_marks_lem}
use Rattle.rows.specs.Read.{is_marked, marks_of, row_marks, written, read_into}

-- the marked codes from row i on
unfoldable pub left_from : List ℕ → ℕ → List ℕ
left_from m i = select (is_marked m) (i * 64) ((64 - i) * 64)

-- from the first row on they are all
pub left_all : (m : List ℕ) → left_from m 0 ≡ marks_of m 4096
unfolding left_from
left_all m = refl

-- past the last there are none
pub left_none : (m : List ℕ) (i : ℕ) → i ≡ 64 → left_from m i ≡ []
unfolding left_from select
left_none m i e = rw e

-- a row's codes come before those of the rows after it
pub left_more : (m : List ℕ) (i : ℕ) → i < 64 → left_from m i ≡ row_marks (get_or m i 0) (i * 64) ++ left_from m (i + 1)
unfolding left_from
left_more m i l =
    let e : (64 - i) * 64 ≡ 64 + (64 - (i + 1)) * 64 = omega arith in
    let f : (i + 1) * 64 ≡ i * 64 + 64 = omega arith in
    rw (e, f, select_split (is_marked m) 64 ((64 - (i + 1)) * 64) (i * 64), row_marks_lem m i)

-- and so do their numbers
pub left_length : (m : List ℕ) (i : ℕ) → i < 64 → length (left_from m i) ≡ length (row_marks (get_or m i 0) (i * 64)) + length (left_from m (i + 1))
left_length m i l = ap length (left_more m i l) ∙ length-append (row_marks (get_or m i 0) (i * 64)) (left_from m (i + 1))

-- one run of stores after another is a run of all
sets_append : (xs ys l : List ℕ) (i : ℕ) → sets l i (xs ++ ys) ≡ sets (sets l i xs) (i + length xs) ys
sets_append [] ys l i = let e : i + 0 ≡ i = omega arith in rw e
sets_append (x ∷ xs) ys l i = let e : i + suc (length xs) ≡ suc i + length xs = omega arith in rw e (sets_append xs ys _ (suc i))

-- writing a row's codes leaves those of the rows after it to be written
pub write_row : (m l r : List ℕ) (i at next : ℕ) → i < 64 → next ≡ at + length (row_marks (get_or m i 0) (i * 64))
    → r ≡ sets l at (row_marks (get_or m i 0) (i * 64)) → sets r next (left_from m (i + 1)) ≡ sets l at (left_from m i)
write_row m l r i at next h e f = rw (e, f, left_more m i h) (sym (sets_append (row_marks (get_or m i 0) (i * 64)) (left_from m (i + 1)) l at))

-- what fits is written at the front
pub read_fits : (new old : List ℕ) → length new ≤ length old → sets old 0 new ≡ read_into new old
unfolding read_into written
read_fits new old h =
    let e : 0 + length new ≡ length new = omega arith in
    let f = sets-eq new old 0 (omega arith) in
    rw (le-leb (length new) (length old) h) (rw e at f)

-- and what does not is not
pub read_not : (new old : List ℕ) → length old < length new → old ≡ read_into new old
unfolding read_into
read_not new old h = rw (lt-leb (length new) (length old) h)
