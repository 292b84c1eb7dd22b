-- Exchanging the digits 0 and 3 of six variables: the rows change places, and so do the bits of each row (`exchange_done`).
-- One exchange of bits s apart (`turned`) reads bit `moved s mask k` for bit k, whatever the row holds; three of them after each other
-- read bit `exchange 3 k`, by computed tests over the 64 bits (`three_moved`). The rows change places by `exchange 3` as well
-- (`partner_exchanged`), four a turn (`four_placed`), since `exchange 6` is one of each half (`exchange_split`).
use mathlib.Core.Path.{◌≡◌, refl, sym, ap, ◌∙◌}
use mathlib.Core.Logic.{◌↔◌}
use mathlib.Core.Bool.{Bool, true, ◌&&◌}
use mathlib.Core.List.{List}
use Prim.Native.Nat.{ℕ, zero, suc, ◌+◌, ◌-◌, ◌*◌, ◌/◌, ◌%◌, ◌^◌, ◌≤◌, ◌<◌, min}
use native.Mathlib.Nat.{min-zero, mul_assoc}
use native.Mathlib.Decide.{ℕ_discrete, dec_le}
use native.Mathlib.Omega.{arith}
use borrow.Author.Tests.{leb-true}
use lib.Bits.{bit_and, bit_xor, shifted_even}
use lib.Dec.{eqb, leb}
use lib.ListN.{length, get_or, set, length-set}
use lib.Pow.{shl-shr, pow-add}
use lib.Seq.{get_or-set_same, get_or-set_other}
use Rattle.fuzzy.specs.Phrase.{digits, has}
use Rattle.fuzzy.proofs.Digits.{number}
use Rattle.fuzzy.proofs.Literals.{has_lt, has_and, has_mod}
use Rattle.fuzzy.proofs.Search.{both_first, both_second, eqb_eq}
use Rattle.fuzzy.proofs.Within.{swap, exchange, exchange_lt}
use Rattle.std.proofs.lemmas.Bool.{agree_below, agree_below_at}
use Rattle.rows.proofs.Shift.{has_shr, has_shl, xor_has}
use Rattle.rows.specs.Square.{square, Marked}

-- a row shifted up has no marks below the shift
has_shl_low : (x s k : ℕ) → k < s → has (x * 2 ^ s) k ≡ 0
unfolding has
has_shl_low x s k l =
    let e : s ≡ suc (s - suc k) + k = omega arith in
    rw (e, pow-add 2 (suc (s - suc k)) k, ← mul_assoc x (2 ^ suc (s - suc k)) (2 ^ k), shl-shr (x * 2 ^ suc (s - suc k)) k)
    (shifted_even x (s - suc k))

-- of a bit, the one s higher and the one s lower, the masks choose one
choose : (f : ℕ → ℕ) → ((k : ℕ) → f k < 2) → (s k up down : ℕ) → up + down ≤ 1
    → ((f k + min ((f (s + k) + f k) % 2) up) % 2 + min ((f k + f (k - s)) % 2) down) % 2 ≡ f (k + s * up - s * down)
choose f lt s k zero zero l = let e : k ≡ k + s * 0 - s * 0 = omega arith in omega (arith, ap f e, lt k)
choose f lt s k (suc zero) zero l = let e : s + k ≡ k + s * 1 - s * 0 = omega arith in omega (arith, ap f e, lt k, lt (s + k))
choose f lt s k zero (suc zero) l = let e : k - s ≡ k + s * 0 - s * 1 = omega arith in omega (arith, ap f e, lt k, lt (k - s))
choose f lt s k (suc (suc up)) zero l = absurd (omega arith)
choose f lt s k zero (suc (suc down)) l = absurd (omega arith)
choose f lt s k (suc up) (suc down) l = absurd (omega arith)

-- the bits of the mask that differ from those s higher
abbrev pub odd : ℕ → ℕ → ℕ → ℕ
odd s mask row = bit_and (bit_xor (row / 2 ^ s) row) mask

-- the row with the bits of the mask and those s higher exchanged
abbrev pub turned : ℕ → ℕ → ℕ → ℕ
turned s mask row = bit_xor (bit_xor row (odd s mask row)) (odd s mask row * 2 ^ s % 2 ^ 64)

-- the bit that comes to bit k
abbrev moved : ℕ → ℕ → ℕ → ℕ
moved s mask k = k + s * has mask k - s * has (mask * 2 ^ s) k

module _ (s mask row : ℕ) where
  odd_has : (k : ℕ) → has (odd s mask row) k ≡ min ((has row (s + k) + has row k) % 2) (has mask k)
  odd_has k = rw (has_and (bit_xor (row / 2 ^ s) row) mask k, xor_has (row / 2 ^ s) row k, has_shr row s k)

  odd_up : (k : ℕ) → has (odd s mask row * 2 ^ s) k ≡ min ((has row k + has row (k - s)) % 2) (has (mask * 2 ^ s) k)
  odd_up k = at (dec_le s k)
    where
      late : (a : ℕ) → has (odd s mask row * 2 ^ s) (s + a) ≡ min ((has row (s + a) + has row (s + a - s)) % 2) (has (mask * 2 ^ s) (s + a))
      late a = let e : s + a - s ≡ a = omega arith in rw (e, has_shl (odd s mask row) s a, has_shl mask s a) (odd_has a)

      at : Dec (s ≤ k) → has (odd s mask row * 2 ^ s) k ≡ min ((has row k + has row (k - s)) % 2) (has (mask * 2 ^ s) k)
      at (yes l) = let e : s + (k - s) ≡ k = omega arith in rw e at (late (k - s))
      at (no d) = rw (has_shl_low (odd s mask row) s k (omega arith), has_shl_low mask s k (omega arith)) (sym (min-zero _))

  -- one exchange of bits brings bit `moved s mask k` to bit k
  turned_has : (k : ℕ) → k < 64 → has mask k + has (mask * 2 ^ s) k ≤ 1 → has (turned s mask row) k ≡ has row (moved s mask k)
  turned_has k l one =
      rw (
        xor_has (bit_xor row (odd s mask row)) (odd s mask row * 2 ^ s % 2 ^ 64) k,
        xor_has row (odd s mask row) k,
        odd_has k,
        has_mod 32 (odd s mask row * 2 ^ s) k l,
        odd_up k,
      )
      (choose (has row) (has_lt row) s k (has mask k) (has (mask * 2 ^ s) k) one)

-- the bits of a row whose last digit is 0
abbrev pub none₀ : ℕ
none₀ = 1229782938247303441

-- the bits of a row whose second digit is 0
abbrev pub none₁ : ℕ
none₁ = 4222189076152335

-- the bits of a row whose first digit is 0
abbrev pub none₂ : ℕ
none₂ = 65535

-- whether an exchange of bits reads, for bit k, a bit of the row, and one mask at most has bit k
fine : ℕ → ℕ → ℕ → Bool
fine s mask k = leb (has mask k + has (mask * 2 ^ s) k) 1 && leb (moved s mask k) 63

fine₀ : agree_below (fine 3 none₀) (λ k. true) 64 ≡ true
unfolding fine has
fine₀ = refl

fine₁ : agree_below (fine 12 none₁) (λ k. true) 64 ≡ true
unfolding fine has
fine₁ = refl

fine₂ : agree_below (fine 48 none₂) (λ k. true) 64 ≡ true
unfolding fine has
fine₂ = refl

-- so it brings that bit there
turn : (s mask : ℕ) → agree_below (fine s mask) (λ k. true) 64 ≡ true → (row k : ℕ) → k < 64
    → (moved s mask k < 64) × (has (turned s mask row) k ≡ has row (moved s mask k))
unfolding fine
turn s mask all row k l =
    let one = leb (has mask k + has (mask * 2 ^ s) k) 1 in
    let low = leb (moved s mask k) 63 in
    let both : one && low ≡ true = agree_below_at (fine s mask) (λ k. true) 64 k all l in
    let in-row = leb-true (moved s mask k) 63 (both_second one low both) in
    (omega arith, turned_has s mask row k l (leb-true (has mask k + has (mask * 2 ^ s) k) 1 (both_first one low both)))

-- three exchanges read the bits with their digits exchanged
three_moved : agree_below (λ k. eqb (moved 48 none₂ (moved 12 none₁ (moved 3 none₀ k))) (exchange 3 k)) (λ k. true) 64 ≡ true
unfolding has exchange digits number swap
three_moved = refl

-- three exchanges of bits after each other exchange the digits of a row's codes
pub row_exchanged_lem : (row k : ℕ) → k < 64 → has (turned 3 none₀ (turned 12 none₁ (turned 48 none₂ row))) k ≡ has row (exchange 3 k)
row_exchanged_lem row k l =
    let a : ℕ = moved 3 none₀ k in
    let b : ℕ = moved 12 none₁ a in
    let first = turn 3 none₀ fine₀ (turned 12 none₁ (turned 48 none₂ row)) k l in
    let second = turn 12 none₁ fine₁ (turned 48 none₂ row) a first.0 in
    let third = turn 48 none₂ fine₂ row b second.0 in
    let e : moved 48 none₂ b ≡ exchange 3 k =
    eqb_eq (moved 48 none₂ b) (exchange 3 k)
    (agree_below_at (λ k. eqb (moved 48 none₂ (moved 12 none₁ (moved 3 none₀ k))) (exchange 3 k)) (λ k. true) 64 k three_moved l) in
    first.1 ∙ second.1 ∙ third.1 ∙ ap (has row) e

-- a number of three digits with the bits of each digit flipped, but for the digits with unlike bits
abbrev pub flipped : ℕ → ℕ
flipped i = bit_xor (bit_xor i 63) (3 * bit_and (bit_xor i (i / 2)) 21)

all_flipped : agree_below (λ i. eqb (flipped i) (exchange 3 i)) (λ i. true) 64 ≡ true
unfolding exchange digits number swap
all_flipped = refl

-- a row's number is so exchanged
pub partner_exchanged : (i : ℕ) → i < 64 → (flipped i < 64) × (flipped i ≡ exchange 3 i)
partner_exchanged i l =
    let e : flipped i ≡ exchange 3 i = eqb_eq (flipped i) (exchange 3 i) (agree_below_at (λ i. eqb (flipped i) (exchange 3 i)) (λ i. true) 64 i all_flipped l) in
    (omega (arith, exchange_lt 3 i), e)

-- numbers that differ in their last digit alone, 0 in one and k in the other, differ once exchanged by a d that goes by k alone, by a test of all
apart : (k d : ℕ) → agree_below (λ four. eqb (exchange 3 (4 * four + k) + d) (exchange 3 (4 * four))) (λ four. true) 16 ≡ true
    → (four : ℕ) → four < 16 → exchange 3 (4 * four + k) + d ≡ exchange 3 (4 * four)
apart k d all four l = eqb_eq _ _ (agree_below_at (λ four. eqb (exchange 3 (4 * four + k) + d) (exchange 3 (4 * four))) (λ four. true) 16 four all l)

-- a last digit of 0 is exchanged for 3
pub three_under : (four : ℕ) → four < 16 → 3 ≤ exchange 3 (4 * four)
unfolding exchange digits number swap
three_under four l = omega (arith, apart 3 3 refl four l)

module _ (rows : List ℕ) where
  -- the rows before n are in their new places
  abbrev pub Placed : List ℕ → ℕ → Type 0
  Placed out n = (i : ℕ) → i < n → get_or out i 0 ≡ get_or rows (exchange 3 i) 0

  -- a row more
  row_placed : (out : List ℕ) (n m from : ℕ) → n < length out → m ≡ n + 1 → from ≡ exchange 3 n → Placed out n
      → Placed (set out n (get_or rows from 0)) m
  row_placed out n m from l up e before i li = at (ℕ_discrete i n)
    where
      at : Dec (i ≡ n) → get_or (set out n (get_or rows from 0)) i 0 ≡ get_or rows (exchange 3 i) 0
      at (yes s) = rw (s, get_or-set_same out n (get_or rows from 0) 0 l, e)
      at (no d) = get_or-set_other out n i (get_or rows from 0) 0 d ∙ before i (omega arith)

  -- the rows with one four more in their places, the first of the four from `from`
  abbrev pub with_four : List ℕ → ℕ → ℕ → List ℕ
  with_four out four from =
      let first = set out (4 * four) (get_or rows from 0) in
      let second = set first (4 * four + 1) (get_or rows (from - 2) 0) in
      let third = set second (4 * four + 2) (get_or rows (from - 1) 0) in
      set third (4 * four + 3) (get_or rows (from - 3) 0)

  -- four rows more
  pub four_placed : (out : List ℕ) (four from : ℕ) → length out ≡ 64 → four < 16 → from ≡ exchange 3 (4 * four) → Placed out (4 * four)
      → Placed (with_four out four from) (4 * (four + 1))
  unfolding exchange digits number swap
  four_placed out four from len l e before =
      let first = row_placed out (4 * four) (4 * four + 1) from (omega arith) (omega arith) e before in
      let second = row_placed _ (4 * four + 1) (4 * four + 2) (from - 2) (simp length-set (omega arith)) (omega arith) (omega (arith, apart 1 2 refl four l)) first in
      let third = row_placed _ (4 * four + 2) (4 * four + 3) (from - 1) (simp length-set (omega arith)) (omega arith) (omega (arith, apart 2 1 refl four l)) second in
      row_placed _ (4 * four + 3) (4 * (four + 1)) (from - 3) (simp length-set (omega arith)) (omega arith) (omega (arith, apart 3 3 refl four l)) third

-- a number of six digits is exchanged by halves
exchange_split : (c : ℕ) → exchange 6 c ≡ exchange 3 (c / 64) * 64 + exchange 3 (c % 64)
unfolding exchange digits number
exchange_split c =
    let e₅ : c / 64 / 16 % 4 ≡ c / 1024 % 4 = omega arith in
    let e₄ : c / 64 / 4 % 4 ≡ c / 256 % 4 = omega arith in
    let e₃ : c / 64 / 1 % 4 ≡ c / 64 % 4 = omega arith in
    let e₂ : c % 64 / 16 % 4 ≡ c / 16 % 4 = omega arith in
    let e₁ : c % 64 / 4 % 4 ≡ c / 4 % 4 = omega arith in
    let e₀ : c % 64 / 1 % 4 ≡ c / 1 % 4 = omega arith in
    rw (e₅, e₄, e₃, e₂, e₁, e₀) (omega arith)

-- rows in their new places, their bits exchanged, are the codes exchanged
pub exchange_done : (rows out : List ℕ)
    → ((i b : ℕ) → i < 64 → b < 64 → has (get_or out i 0) b ≡ has (get_or rows (exchange 3 i) 0) (exchange 3 b))
    → (c : ℕ) → c < 4096 → Marked out c ↔ Marked rows (exchange 6 c)
unfolding square
exchange_done rows out each c l = (λ m. (exchange_lt 6 c, sym same ∙ m.1), λ m. (l, same ∙ m.1))
  where
    same : square out c ≡ square rows (exchange 6 c)
    same =
        let low : exchange 3 (c % 64) < 64 = exchange_lt 3 (c % 64) in
        let row : (exchange 3 (c / 64) * 64 + exchange 3 (c % 64)) / 64 ≡ exchange 3 (c / 64) = omega arith in
        let bit : (exchange 3 (c / 64) * 64 + exchange 3 (c % 64)) % 64 ≡ exchange 3 (c % 64) = omega arith in
        rw (exchange_split c, row, bit) (each (c / 64) (c % 64) (omega arith) (omega arith))
