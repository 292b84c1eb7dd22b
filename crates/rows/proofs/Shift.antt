-- A row shifted by 2 ^ k, within the codes that have literal k, has its marks moved by that literal; six steps close a row upwards or downwards.
-- Which codes have a literal is computed, at all 64 codes and six literals (`each`). `raise_row_lem` and `lower_row_lem` are one step, by the laws of `has`
-- under shifts and `bit_and`. `up_row_lem`, `down_row_lem` and `above_row_lem` are inductions over the literals taken so far.
--   mask k         the codes below 64 that have literal k, as a row
--   raise_row k x  the row's marks one literal higher
--   lower_row k x  the row's marks one literal lower
--   up_row k x     the row after k steps upwards
--   down_row k x   the row after k steps downwards
--   above_row k x  the row's marks higher by one of the first k literals
use mathlib.Core.Path.{◌≡◌, refl, ap, ◌∙◌}
use mathlib.Core.Bool.{Bool, true}
use Prim.Native.Nat.{ℕ, zero, suc, ◌+◌, ◌-◌, ◌*◌, ◌/◌, ◌%◌, ◌^◌, ◌≤◌, ◌<◌, min}
use native.Mathlib.Nat.{add_comm, min_comm}
use native.Mathlib.Decide.{ℕ_discrete}
use native.Mathlib.Omega.{arith}
use lib.Bits.{bit_and, bit_or, bit_xor}
use lib.Dec.{eqb, ltb}
use lib.Pow.{pow_pos, shl-shr, shr-shr}
use Rattle.std.proofs.lemmas.Bool.{agree_below, agree_below_at, eqb-true, ltb-true}
use Rattle.std.proofs.lemmas.Nat.Bits.{bit_at_ones, bit_at_xor}
use Rattle.fuzzy.specs.Phrase.{has}
use Rattle.fuzzy.proofs.Literals.{has_lt, has_le, has_or, has_and, has_none, has_mod}
use Rattle.rows.specs.Stage.{raise, lower, closed_up, closed_down, raised}

-- the codes below 64 that have literal k, as a row
abbrev mask : ℕ → ℕ
mask k = (2 ^ 64 - 1) / (2 ^ 2 ^ k + 1) * 2 ^ 2 ^ k

-- a test that passes, by computing, at all six literals and 64 codes
each : (f : ℕ → ℕ → Bool) → agree_below (λ k. agree_below (f k) (λ c. true) 64) (λ k. true) 6 ≡ true → (k : ℕ) → k < 6 → (c : ℕ) → c < 64 → f k c ≡ true
each f e k lk c lc = agree_below_at (f k) (λ c. true) 64 c (agree_below_at (λ k. agree_below (f k) (λ c. true) 64) (λ k. true) 6 k e lk) lc

-- all 64 bits of the largest row are set
pub full_has : (c : ℕ) → c < 64 → has 18446744073709551615 c ≡ 1
unfolding has
full_has c l = bit_at_ones 64 c l

-- the mask marks the codes that have literal k
mask_has : (k : ℕ) → k < 6 → (c : ℕ) → c < 64 → has (mask k) c ≡ has c k
unfolding has
mask_has k lk c lc = eqb-true _ _ (each (λ k c. eqb (has (mask k) c) (has c k)) refl k lk c lc)

-- it marks 2 ^ k more than a code exactly where the code lacks that literal
mask_added : (k : ℕ) → k < 6 → (c : ℕ) → c < 64 → has (mask k) (c + 2 ^ k) ≡ 1 - has c k
unfolding has
mask_added k lk c lc = eqb-true _ _ (each (λ k c. eqb (has (mask k) (c + 2 ^ k)) (1 - has c k)) refl k lk c lc)

-- and that is then below 64
added_lt : (k : ℕ) → k < 6 → (c : ℕ) → c < 64 → c + 2 ^ k < 64 + 64 * has c k
unfolding has
added_lt k lk c lc = ltb-true _ _ (each (λ k c. ltb (c + 2 ^ k) (64 + 64 * has c k)) refl k lk c lc)

-- `bit_xor` adds the literals of both, without a carry
pub xor_has : (p q k : ℕ) → has (bit_xor p q) k ≡ (has p k + has q k) % 2
unfolding has
xor_has p q k = bit_at_xor p q k

-- a row shifted down has its marks lower
pub has_shr : (x s c : ℕ) → has (x / 2 ^ s) c ≡ has x (s + c)
unfolding has
has_shr x s c = rw (shr-shr x s c)

-- and shifted up higher
pub has_shl : (x s c : ℕ) → has (x * 2 ^ s) (s + c) ≡ has x c
has_shl x s c = rw (← has_shr (x * 2 ^ s) s c, shl-shr x s)

-- also below 64
has_shl_row : (x s c : ℕ) → s ≤ c → c < 64 → has (x * 2 ^ s % 2 ^ 64) c ≡ has x (c - s)
has_shl_row x s c l lc =
    let e : c ≡ s + (c - s) = omega arith in
    has_mod 32 (x * 2 ^ s) c lc ∙ ap (has (x * 2 ^ s)) e ∙ has_shl x s (c - s)

-- the row's marks one literal higher
abbrev raise_row : ℕ → ℕ → ℕ
raise_row k x = bit_and (x * 2 ^ 2 ^ k % 2 ^ 64) (mask k)

-- the row's marks one literal lower
abbrev lower_row : ℕ → ℕ → ℕ
lower_row k x = bit_and x (mask k) / 2 ^ 2 ^ k

-- a step upwards raises the marks f of a row
raise_row_lem : (k : ℕ) → k < 6 → (x : ℕ) (f : ℕ → ℕ) → ((c : ℕ) → c < 64 → has x c ≡ f c)
    → (c : ℕ) → c < 64 → has (raise_row k x) c ≡ raise k f c
unfolding raise
raise_row_lem k lk x f same c lc =
    rw (has_and (x * 2 ^ 2 ^ k % 2 ^ 64) (mask k) c, mask_has k lk c lc) (at (ℕ_discrete (has c k) 1))
  where
    at : Dec (has c k ≡ 1) → min (has (x * 2 ^ 2 ^ k % 2 ^ 64) c) (has c k) ≡ min (has c k) (f (c - 2 ^ k))
    at (yes e) = rw (has_shl_row x (2 ^ k) c (has_le c k e) lc, same (c - 2 ^ k) (omega arith)) (min_comm _ _)
    at (no d) = omega (arith, has_lt c k)

-- a step downwards lowers the marks f of a row
lower_row_lem : (k : ℕ) → k < 6 → (x : ℕ) (f : ℕ → ℕ) → ((c : ℕ) → c < 64 → has x c ≡ f c)
    → (c : ℕ) → c < 64 → has (lower_row k x) c ≡ lower k f c
unfolding lower
lower_row_lem k lk x f same c lc =
    rw (has_shr (bit_and x (mask k)) (2 ^ k) c, add_comm (2 ^ k) c, has_and x (mask k) (c + 2 ^ k), mask_added k lk c lc) (at (ℕ_discrete (has c k) 0))
  where
    at : Dec (has c k ≡ 0) → min (has x (c + 2 ^ k)) (1 - has c k) ≡ min (1 - has c k) (f (c + 2 ^ k))
    at (yes e) = rw (same (c + 2 ^ k) (omega (arith, added_lt k lk c lc))) (min_comm _ _)
    at (no d) = omega arith

-- the row after k steps upwards
abbrev up_row : ℕ → ℕ → ℕ
up_row zero x = x
up_row (suc k) x = bit_or (up_row k x) (raise_row k (up_row k x))

-- the row after k steps downwards
abbrev down_row : ℕ → ℕ → ℕ
down_row zero x = x
down_row (suc k) x = bit_or (down_row k x) (lower_row k (down_row k x))

-- the row's marks higher by one of the first k literals
abbrev above_row : ℕ → ℕ → ℕ
above_row zero x = 0
above_row (suc k) x = bit_or (above_row k x) (raise_row k x)

-- k steps upwards close a row upwards over the first k literals
pub up_row_lem : (k : ℕ) → k ≤ 6 → (x c : ℕ) → c < 64 → has (up_row k x) c ≡ closed_up k (has x) c
unfolding closed_up
up_row_lem zero l x c lc = refl
up_row_lem (suc k) l x c lc =
    let before = up_row_lem k (omega arith) x in
    rw (has_or (up_row k x) (raise_row k (up_row k x)) c, before c lc, raise_row_lem k (omega arith) (up_row k x) (closed_up k (has x)) before c lc)

-- k steps downwards close a row downwards over the first k literals
pub down_row_lem : (k : ℕ) → k ≤ 6 → (x c : ℕ) → c < 64 → has (down_row k x) c ≡ closed_down k (has x) c
unfolding closed_down
down_row_lem zero l x c lc = refl
down_row_lem (suc k) l x c lc =
    let before = down_row_lem k (omega arith) x in
    rw (has_or (down_row k x) (lower_row k (down_row k x)) c, before c lc, lower_row_lem k (omega arith) (down_row k x) (closed_down k (has x)) before c lc)

-- a row raised by each of the first k literals marks the codes that are marked without one of them
pub above_row_lem : (k : ℕ) → k ≤ 6 → (x c : ℕ) → c < 64 → has (above_row k x) c ≡ raised k (has x) c
unfolding raised
above_row_lem zero l x c lc = has_none 0 c (pow_pos c)
above_row_lem (suc k) l x c lc =
    rw (has_or (above_row k x) (raise_row k x) c, above_row_lem k (omega arith) x c lc, raise_row_lem k (omega arith) x (has x) (λ d m. refl) c lc)
