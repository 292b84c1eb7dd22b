-- A pass over the 64 rows does to the marks of the 4,096 codes what it does to each row.
-- A code's six lower literals are those of its bit, and leaving one out or adding one stays in the row (`raise_row_lem`, `lower_row_lem`), so closing
-- over them closes each row; its six higher literals are those of its row, and the bit stays (`raise_across`, `lower_across`).
-- So what each row has at its bits the codes have (`all_codes`), and each pass is one lemma more, over the rows that it gives.
use mathlib.Core.Path.{◌≡◌, refl, sym, ap, ◌∙◌}
use mathlib.Core.Logic.{◌≢◌}
use mathlib.Core.List.{List}
use Prim.Native.Nat.{ℕ, zero, suc, ◌+◌, ◌-◌, ◌*◌, ◌/◌, ◌%◌, ◌^◌, ◌≤◌, ◌<◌, min}
use native.Mathlib.Nat.{zero-mul, mod-lt, zero-min}
use native.Mathlib.Decide.{ℕ_discrete}
use native.Mathlib.Omega.{arith}
use lib.Bits.{bit_and, bit_xor}
use lib.ListN.{get_or}
use lib.Pow.{pow_pos, pow-add}
use Rattle.fuzzy.specs.Phrase.{has}
use Rattle.fuzzy.proofs.Literals.{has_lt, has_and, has_none, has_le, has_itself, has_mod}
use Rattle.std.proofs.lemmas.Nat.Bits.{and_pow}
use Rattle.rows.specs.Square.{square}
use Rattle.rows.proofs.Shift.{has_shr, xor_has}
use Rattle.rows.proofs.Stage.{more_lt}
use Rattle.rows.specs.Stage.{raise, lower, closed_up, closed_down, raised}

-- a literal below 6 is one of the code's bit
pub has_bit : (c k : ℕ) → k < 6 → has c k ≡ has (c % 64) k
has_bit c k l = sym (has_mod 3 c k l)

-- a literal from 6 on is one of the code's row
pub has_row : (c k : ℕ) → has c (6 + k) ≡ has (c / 64) k
has_row c k = sym (has_shr c 6 k)

module _ (f : ℕ → ℕ) (g : ℕ → ℕ → ℕ) (same : (c : ℕ) → f c ≡ g (c / 64) (c % 64)) (k : ℕ) (few : k < 6) (c : ℕ) where
  -- raising by a literal below 6 stays in the row
  raise_row_lem : raise k f c ≡ raise k (g (c / 64)) (c % 64)
  unfolding raise
  raise_row_lem = rw (has_bit c k few) (at (ℕ_discrete (has (c % 64) k) 1))
    where
      at : Dec (has (c % 64) k ≡ 1) → min (has (c % 64) k) (f (c - 2 ^ k)) ≡ min (has (c % 64) k) (g (c / 64) (c % 64 - 2 ^ k))
      at (yes e) =
          let le = has_le (c % 64) k e in
          let row : (c - 2 ^ k) / 64 ≡ c / 64 = omega arith in
          let bit : (c - 2 ^ k) % 64 ≡ c % 64 - 2 ^ k = omega arith in
          ap (min (has (c % 64) k)) (rw (row, bit) at (same (c - 2 ^ k)))
      at (no d) = let z : has (c % 64) k ≡ 0 = omega (arith, has_lt (c % 64) k) in simp (z, zero-min)

  -- and so does lowering
  lower_row_lem : lower k f c ≡ lower k (g (c / 64)) (c % 64)
  unfolding lower
  lower_row_lem = rw (has_bit c k few) (at (ℕ_discrete (has (c % 64) k) 0))
    where
      at : Dec (has (c % 64) k ≡ 0) → min (1 - has (c % 64) k) (f (c + 2 ^ k)) ≡ min (1 - has (c % 64) k) (g (c / 64) (c % 64 + 2 ^ k))
      at (yes e) =
          let le = more_lt 6 (c % 64) k (mod-lt c (omega arith)) few e in
          let row : (c + 2 ^ k) / 64 ≡ c / 64 = omega arith in
          let bit : (c + 2 ^ k) % 64 ≡ c % 64 + 2 ^ k = omega arith in
          ap (min (1 - has (c % 64) k)) (rw (row, bit) at (same (c + 2 ^ k)))
      at (no d) = let z : has (c % 64) k ≡ 1 = omega (arith, has_lt (c % 64) k) in simp (z, zero-min)

module _ (m : List ℕ) where
  -- the marks of a code are those of its row at its bit
  pub square_row : (c : ℕ) → square m c ≡ has (get_or m (c / 64) 0) (c % 64)
  unfolding square
  square_row c = refl

  -- closing upwards over literals below 6 closes each row
  up_row_lem : (k : ℕ) → k ≤ 6 → (c : ℕ) → closed_up k (square m) c ≡ closed_up k (has (get_or m (c / 64) 0)) (c % 64)
  unfolding closed_up
  up_row_lem zero l c = square_row c
  up_row_lem (suc k) l c =
      rw (up_row_lem k (omega arith) c, raise_row_lem (closed_up k (square m)) (λ r. closed_up k (has (get_or m r 0))) (up_row_lem k (omega arith)) k l c)

  -- closing downwards over them closes each row
  down_row_lem : (k : ℕ) → k ≤ 6 → (c : ℕ) → closed_down k (square m) c ≡ closed_down k (has (get_or m (c / 64) 0)) (c % 64)
  unfolding closed_down
  down_row_lem zero l c = square_row c
  down_row_lem (suc k) l c =
      rw (down_row_lem k (omega arith) c, lower_row_lem (closed_down k (square m)) (λ r. closed_down k (has (get_or m r 0))) (down_row_lem k (omega arith)) k l c)

  -- raising by them raises in each row
  above_row_lem : (k : ℕ) → k ≤ 6 → (c : ℕ) → raised k (square m) c ≡ raised k (has (get_or m (c / 64) 0)) (c % 64)
  unfolding raised
  above_row_lem zero l c = refl
  above_row_lem (suc k) l c =
      rw (above_row_lem k (omega arith) c, raise_row_lem (square m) (λ r. has (get_or m r 0)) square_row k l c)

  -- raising by a literal from 6 on takes the row without it, at the same bit
  pub raise_across : (k c : ℕ) → raise (6 + k) (square m) c ≡ min (has (c / 64) k) (has (get_or m (c / 64 - 2 ^ k) 0) (c % 64))
  unfolding raise
  raise_across k c = rw (has_row c k, pow-add 2 6 k) (at (ℕ_discrete (has (c / 64) k) 1))
    where
      at : Dec (has (c / 64) k ≡ 1)
          → min (has (c / 64) k) (square m (c - 64 * 2 ^ k)) ≡ min (has (c / 64) k) (has (get_or m (c / 64 - 2 ^ k) 0) (c % 64))
      at (yes e) =
          let le = has_le (c / 64) k e in
          let row : (c - 64 * 2 ^ k) / 64 ≡ c / 64 - 2 ^ k = omega arith in
          let bit : (c - 64 * 2 ^ k) % 64 ≡ c % 64 = omega arith in
          ap (min (has (c / 64) k)) (rw (row, bit) at (square_row (c - 64 * 2 ^ k)))
      at (no d) = let z : has (c / 64) k ≡ 0 = omega (arith, has_lt (c / 64) k) in simp (z, zero-min)

  -- lowering by one takes the row with it
  pub lower_across : (k c : ℕ) → lower (6 + k) (square m) c ≡ min (1 - has (c / 64) k) (has (get_or m (c / 64 + 2 ^ k) 0) (c % 64))
  unfolding lower
  lower_across k c =
      let row : (c + 64 * 2 ^ k) / 64 ≡ c / 64 + 2 ^ k = omega arith in
      let bit : (c + 64 * 2 ^ k) % 64 ≡ c % 64 = omega arith in
      rw (has_row c k, pow-add 2 6 k) (ap (min (1 - has (c / 64) k)) (rw (row, bit) at (square_row (c + 64 * 2 ^ k))))

-- what each row has at its bits the codes have
pub all_codes : (r : List ℕ) (v : ℕ → ℕ → ℕ) → ((i : ℕ) → i < 64 → (b : ℕ) → b < 64 → has (get_or r i 0) b ≡ v i b)
    → (c : ℕ) → c < 4096 → square r c ≡ v (c / 64) (c % 64)
all_codes r v h c l = square_row r c ∙ h (c / 64) (omega arith) (c % 64) (mod-lt c (omega arith))

module _ (m r : List ℕ) where
  -- rows that are each closed upwards
  pub up_all : ((i : ℕ) → i < 64 → (b : ℕ) → b < 64 → has (get_or r i 0) b ≡ closed_up 6 (has (get_or m i 0)) b)
      → (c : ℕ) → c < 4096 → square r c ≡ closed_up 6 (square m) c
  up_all h c l = all_codes r (λ i. closed_up 6 (has (get_or m i 0))) h c l ∙ sym (up_row_lem m 6 (omega arith) c)

  -- rows that are each closed downwards
  pub down_all : ((i : ℕ) → i < 64 → (b : ℕ) → b < 64 → has (get_or r i 0) b ≡ closed_down 6 (has (get_or m i 0)) b)
      → (c : ℕ) → c < 4096 → square r c ≡ closed_down 6 (square m) c
  down_all h c l = all_codes r (λ i. closed_down 6 (has (get_or m i 0))) h c l ∙ sym (down_row_lem m 6 (omega arith) c)

  -- rows that are each raised
  pub above_all : ((i : ℕ) → i < 64 → (b : ℕ) → b < 64 → has (get_or r i 0) b ≡ raised 6 (has (get_or m i 0)) b)
      → (c : ℕ) → c < 4096 → square r c ≡ raised 6 (square m) c
  above_all h c l = all_codes r (λ i. raised 6 (has (get_or m i 0))) h c l ∙ sym (above_row_lem m 6 (omega arith) c)

  -- rows that are each without another's
  pub without_all : (o : List ℕ) → ((i : ℕ) → i < 64 → (b : ℕ) → b < 64 → has (get_or r i 0) b ≡ min (has (get_or m i 0) b) (1 - has (get_or o i 0) b))
      → (c : ℕ) → c < 4096 → square r c ≡ min (square m c) (1 - square o c)
  without_all o h c l =
      rw (square_row m c, square_row o c) (all_codes r (λ i b. min (has (get_or m i 0) b) (1 - has (get_or o i 0) b)) h c l)

-- taking out what two rows share leaves what only the first has
pub out_shared : (x y b : ℕ) → has (bit_xor x (bit_and x y)) b ≡ min (has x b) (1 - has y b)
out_shared x y b = omega (arith, xor_has x (bit_and x y) b, has_and x y b, has_lt x b, has_lt y b)

-- a row number that meets 2 ^ k has literal k
pub meets_has : (i k : ℕ) → bit_and i (2 ^ k) ≢ 0 → has i k ≡ 1
unfolding has
meets_has i k d = at (ℕ_discrete (has i k) 0)
  where
    at : Dec (has i k ≡ 0) → has i k ≡ 1
    at (yes e) = absurd (d (and_pow i k ∙ ap (λ (b : ℕ). b * 2 ^ k) e ∙ zero-mul (2 ^ k)))
    at (no n) = omega (arith, has_lt i k)

-- one that does not meet it lacks it
pub misses_has : (i k : ℕ) → bit_and i (2 ^ k) ≡ 0 → has i k ≡ 0
misses_has i k e =
    let z : has (bit_and i (2 ^ k)) k ≡ 0 = rw e (has_none 0 k (pow_pos k)) in
    omega (arith, has_itself k, has_and i (2 ^ k) k)
