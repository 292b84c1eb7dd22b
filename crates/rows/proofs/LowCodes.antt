-- The codes of n variables are those of the first rows, and of the first row those below 4 ^ n.
-- So a loop that clears the rows past them, after a mask on the first, leaves just the marked codes of n variables.
use mathlib.Core.Path.{◌≡◌, refl, sym, ◌∙◌}
use mathlib.Core.Logic.{◌⊎◌, inl, inr, ◌↔◌}
use mathlib.Core.Bool.{true}
use mathlib.Core.List.{List}
use Prim.Native.Nat.{ℕ, ◌+◌, ◌*◌, ◌/◌, ◌%◌, ◌^◌, ◌≤◌, ◌<◌, min}
use native.Mathlib.Nat.{eq-zero-or-pos, eq-or-lt_of_le, lt_of_lt_of_le, pow-le-pow_right}
use native.Mathlib.Decide.{dec_lt}
use native.Mathlib.Omega.{arith}
use Rattle.std.proofs.lemmas.Bool.{agree_below, agree_below_at, lt-ltb, ltb-true}
use lib.Bits.{bit_and}
use lib.Dec.{eqb, ltb}
use lib.Pow.{pow_pos}
use lib.ListN.{length, get_or, set}
use lib.Seq.{get_or-set_same, get_or-set_other}
use Rattle.fuzzy.specs.Phrase.{has}
use Rattle.fuzzy.proofs.Literals.{has_lt, has_and, has_none}
use Rattle.fuzzy.proofs.Search.{eqb_eq, eq-eqb}
use Rattle.rows.specs.Square.{square, Marked}

-- row x has just its codes below w
abbrev pub Low : ℕ → ℕ → Type 0
Low x w = (k : ℕ) → k < 64 → (has x k ≡ 1) ↔ (k < w)

-- that is a test of 64 codes
low : (x w : ℕ) → agree_below (λ k. eqb (has x k) 1) (λ k. ltb k w) 64 ≡ true → Low x w
low x w e k l =
    let same = agree_below_at (λ k. eqb (has x k) 1) (λ k. ltb k w) 64 k e l in
    (λ h. ltb-true k w (sym same ∙ eq-eqb (has x k) 1 h), λ h. eqb_eq (has x k) 1 (same ∙ lt-ltb k w h))

-- the codes of no variable in a row
pub low_0 : (n : ℕ) → n ≡ 0 → Low 1 (4 ^ n)
unfolding has
low_0 n e = rw e (low 1 1 refl)

-- of one variable
pub low_1 : (n : ℕ) → n ≡ 1 → Low 0xf (4 ^ n)
unfolding has
low_1 n e = rw e (low 0xf 4 refl)

-- of two variables
pub low_2 : (n : ℕ) → n ≡ 2 → Low 0xffff (4 ^ n)
unfolding has
low_2 n e = rw e (low 0xffff 16 refl)

all_low : Low 0xffff_ffff_ffff_ffff 64
unfolding has
all_low = low 0xffff_ffff_ffff_ffff 64 refl

-- of three or more
pub low_3 : (n : ℕ) → 3 ≤ n → Low 0xffff_ffff_ffff_ffff (4 ^ n)
low_3 n h k l = (λ e. lt_of_lt_of_le l (pow-le-pow_right {n = 4} (omega arith) h), λ e. (all_low k l).1 l)

-- past the first row just the codes of the rows before e are below w
abbrev pub Count : ℕ → ℕ → Type 0
Count e w = (0 < e) × (e ≤ 64) × ((j k : ℕ) → 0 < j → j < 64 → k < 64 → (j * 64 + k < w) ↔ (j < e))

-- up to three variables have one row
pub count_3 : (n : ℕ) → n ≤ 3 → Count 1 (4 ^ n)
count_3 n h =
    let p : 4 ^ n ≤ 4 ^ 3 = pow-le-pow_right {n = 4} (omega arith) h in
    (omega arith, omega arith, λ j k a b d. omega arith)

-- six or more have all
pub count_6 : (n : ℕ) → 6 ≤ n → Count 64 (4 ^ n)
count_6 n h =
    let p : 4 ^ 6 ≤ 4 ^ n = pow-le-pow_right {n = 4} (omega arith) h in
    (omega arith, omega arith, λ j k a b d. omega arith)

-- the rows of r before e are those of m, and those from e to i are empty
abbrev pub Cleared : ℕ → List ℕ → ℕ → List ℕ → Type 0
Cleared e m i r = ((j : ℕ) → j < e → get_or r j 0 ≡ get_or m j 0) × ((j : ℕ) → e ≤ j → j < i → get_or r j 0 ≡ 0)

-- at row e nothing is to be cleared yet
pub clear_none : (e : ℕ) (m : List ℕ) → Cleared e m e m
clear_none e m = (λ j l. refl, λ j a b. absurd (omega arith))

-- one row more
pub clear_more : (e : ℕ) (m : List ℕ) (i : ℕ) (r : List ℕ) → e ≤ i → i < 64 → length r ≡ 64 → Cleared e m i r → Cleared e m (i + 1) (set r i 0)
clear_more e m i r late l rows (kept, none) = (
  λ j lj. get_or-set_other r i j 0 0 (λ s. omega arith) ∙ kept j lj,
  λ j a b. at j a (eq-or-lt_of_le {n = j} {m = i} (omega arith)),
)
  where
    at : (j : ℕ) → e ≤ j → (j ≡ i) ⊎ (j < i) → get_or (set r i 0) j 0 ≡ 0
    at j a (inl s) = rw s (get_or-set_same r i 0 0 (omega arith))
    at j a (inr b) = get_or-set_other r i j 0 0 (λ s. omega arith) ∙ none j a b

-- the rows with a mask on the first
abbrev pub masked : List ℕ → ℕ → List ℕ
masked m x = set m 0 (bit_and (get_or m 0 0) x)

module _ (m : List ℕ) (w x e : ℕ) (rows : length m ≡ 64) (first : Low x w) (count : Count e w) where
  min_one : (a b : ℕ) → a < 2 → b < 2 → (min a b ≡ 1) ↔ ((a ≡ 1) × (b ≡ 1))
  min_one a b la lb = (λ h. omega arith, λ h. omega arith)

  module _ (i : ℕ) (r : List ℕ) (all : 64 ≤ i) (h : Cleared e (masked m x) i r) where
    first_has : (k : ℕ) → k < 64 → (has (get_or r 0 0) k ≡ 1) ↔ ((has (get_or m 0 0) k ≡ 1) × (k < w))
    first_has k l =
        let row = h.0 0 count.0 ∙ get_or-set_same m 0 (bit_and (get_or m 0 0) x) 0 (omega arith) in
        let two = min_one (has (get_or m 0 0) k) (has x k) (has_lt (get_or m 0 0) k) (has_lt x k) in
        rw (row, has_and (get_or m 0 0) x k) (λ y. ((two.0 y).0, (first k l).0 (two.0 y).1), λ y. two.1 (y.0, (first k l).1 y.1))

    later_has : (j k : ℕ) → 0 < j → j < 64 → k < 64 → (has (get_or r j 0) k ≡ 1) ↔ ((has (get_or m j 0) k ≡ 1) × (j * 64 + k < w))
    later_has j k p lj lk = at (dec_lt j e)
      where
        at : Dec (j < e) → (has (get_or r j 0) k ≡ 1) ↔ ((has (get_or m j 0) k ≡ 1) × (j * 64 + k < w))
        at (yes d) =
            rw (h.0 j d ∙ get_or-set_other m 0 j (bit_and (get_or m 0 0) x) 0 (λ z. omega arith)) (λ y. (y, (count.2 j k p lj lk).1 d), λ y. y.0)
        at (no d) =
            rw (h.1 j (omega arith) (omega arith), has_none 0 k (pow_pos k)) (λ y. absurd (omega arith), λ y. absurd (d ((count.2 j k p lj lk).0 y.1)))

    -- with the first row masked and the rows from e on cleared, just the marked codes below w are marked
    pub cut_rows : (c : ℕ) → c < 4096 → Marked r c ↔ (Marked m c × (c < w))
    unfolding square
    cut_rows c l = (λ y. let b = at.0 y.1 in ((l, b.0), b.1), λ y. (l, at.1 (y.0.1, y.1)))
      where
        split : c / 64 * 64 + c % 64 ≡ c
        split = omega arith

        go : (c / 64 ≡ 0) ⊎ (0 < c / 64) → (square r c ≡ 1) ↔ ((square m c ≡ 1) × (c / 64 * 64 + c % 64 < w))
        go (inl z) =
            let b = first_has (c % 64) (omega arith) in
            rw z (λ y. let d = b.0 y in (d.0, omega (arith, d.1)), λ y. b.1 (y.0, omega (arith, y.1)))
        go (inr p) = later_has (c / 64) (c % 64) p (omega arith) (omega arith)

        at : (square r c ≡ 1) ↔ ((square m c ≡ 1) × (c < w))
        at = rw split at (go (eq-zero-or-pos (c / 64)))
