-- The marked codes are those of the rows, one row after the other, and a row has as many as its number has ones.
-- A choice over a run of numbers splits where one likes (`select_split`), and looks only at its own run (`select_run`).
use mathlib.Core.Path.{◌≡◌, refl, sym, ap, ap₂, ◌∙◌}
use mathlib.Core.Bool.{Bool, cond}
use mathlib.Core.List.{List, [], ◌∷◌, ◌++◌, append_assoc}
use Prim.Native.Nat.{ℕ, zero, suc, ◌+◌, ◌-◌, ◌*◌, ◌/◌, ◌%◌, ◌^◌, ◌≤◌, ◌<◌}
use native.Mathlib.Omega.{arith}
use lib.Count.{ones, ones_step}
use lib.Dec.{eqb}
use lib.ListN.{length, get_or, length-append}
use Rattle.fuzzy.specs.Phrase.{has}
use Rattle.fuzzy.specs.Primes.{select}
use Rattle.fuzzy.proofs.Literals.{has_zero, has_next}
use Rattle.fuzzy.proofs.Search.{select_length}
use Rattle.rows.specs.Square.{square}
use Rattle.rows.specs.Read.{is_marked, marks_of, row_marks}

-- the choice depends on nothing but the test's answers where it looks
pub select_run : (t u : ℕ → Bool) (m k : ℕ) → ((j : ℕ) → k ≤ j → j < k + m → t j ≡ u j) → select t k m ≡ select u k m
unfolding select
select_run t u zero k same = refl
select_run t u (suc m) k same = rw (same k (omega arith) (omega arith), select_run t u m (suc k) (λ j a b. same j (omega arith) (omega arith)))

-- a choice over two runs is the choice over the first and then over the second
pub select_split : (t : ℕ → Bool) (a b k : ℕ) → select t k (a + b) ≡ select t k a ++ select t (k + a) b
unfolding select
select_split t zero b k =
    let e : zero + b ≡ b = omega arith in
    let f : k + zero ≡ k = omega arith in
    rw (e, f)
select_split t (suc a) b k =
    let e : suc a + b ≡ suc (a + b) = omega arith in
    let f : k + suc a ≡ suc k + a = omega arith in
    rw (e, f, select_split t a b (suc k)) (sym (append_assoc (cond (t k) (k ∷ []) []) (select t (suc k) a) (select t (suc k + a) b)))

-- where the test looks at the digits of a number, it chooses as many as it has ones
select_ones : (t : ℕ → Bool) (d k x : ℕ) → x < 2 ^ d → ((j : ℕ) → j < d → t (k + j) ≡ eqb (has x j) 1) → length (select t k d) ≡ ones x
unfolding select ones
select_ones t zero k x l h = let e : x ≡ 0 = omega arith in rw e
select_ones t (suc d) k x l h =
    length-append (cond (t k) (k ∷ []) []) (select t (suc k) d)
    ∙ ap₂ ◌+◌ first (select_ones t d (suc k) (x / 2) (omega arith) later) ∙ sym (ones_step x)
  where
    later : (j : ℕ) → j < d → t (suc k + j) ≡ eqb (has (x / 2) j) 1
    later j lj = let e : suc k + j ≡ k + suc j = omega arith in ap t e ∙ h (suc j) (omega arith) ∙ ap (λ (y : ℕ). eqb y 1) (has_next x j)

    one : (b : ℕ) → b < 2 → length (cond (eqb b 1) (k ∷ []) []) ≡ b
    one zero lb = refl
    one (suc zero) lb = refl
    one (suc (suc b)) lb = absurd (omega arith)

    first : length (cond (t k) (k ∷ []) []) ≡ x % 2
    first =
        let e : k ≡ k + 0 = omega arith in
        let f : t k ≡ eqb (x % 2) 1 = ap t e ∙ h 0 (omega arith) ∙ ap (λ (y : ℕ). eqb y 1) (has_zero x) in
        rw f (one (x % 2) (omega arith))

-- a row marks as many codes as it has ones
pub row_ones : (x base : ℕ) → x < 2 ^ 64 → ones x ≡ length (row_marks x base)
unfolding row_marks
row_ones x base l =
    sym (select_ones (λ c. eqb (has x (c - base)) 1) 64 base x l
    (λ j lj. let e : base + j - base ≡ j = omega arith in ap (λ (y : ℕ). eqb (has x y) 1) e))

-- the marked codes of a row
pub row_marks_lem : (m : List ℕ) (i : ℕ) → select (is_marked m) (i * 64) 64 ≡ row_marks (get_or m i 0) (i * 64)
unfolding row_marks square
row_marks_lem m i =
    select_run (is_marked m) (λ c. eqb (has (get_or m i 0) (c - i * 64)) 1) 64 (i * 64)
    (λ j a b. let e : j / 64 ≡ i = omega arith in let f : j % 64 ≡ j - i * 64 = omega arith in rw (e, f))

-- the marked codes of one row more
pub marks_more : (m : List ℕ) (i : ℕ) → marks_of m ((i + 1) * 64) ≡ marks_of m (i * 64) ++ row_marks (get_or m i 0) (i * 64)
marks_more m i =
    let e : (i + 1) * 64 ≡ i * 64 + 64 = omega arith in
    let f : 0 + i * 64 ≡ i * 64 = omega arith in
    rw (e, select_split (is_marked m) (i * 64) 64 0, f, row_marks_lem m i)

-- their number
pub count_more : (m : List ℕ) (i total : ℕ) → get_or m i 0 < 2 ^ 64 → total ≡ length (marks_of m (i * 64))
    → total + ones (get_or m i 0) ≡ length (marks_of m ((i + 1) * 64))
count_more m i total l e =
    ap₂ ◌+◌ e (row_ones (get_or m i 0) (i * 64) l) ∙ sym (length-append (marks_of m (i * 64)) (row_marks (get_or m i 0) (i * 64)))
    ∙ ap length (sym (marks_more m i))

-- which is at most that of the codes
pub count_le : (m : List ℕ) (n : ℕ) → length (marks_of m n) ≤ n
count_le m n = select_length (is_marked m) n 0

-- and none before the first row
pub count_none : (m : List ℕ) → 0 ≡ length (marks_of m 0)
unfolding select
count_none m = refl
