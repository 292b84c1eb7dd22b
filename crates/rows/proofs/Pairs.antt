-- A pass over each two rows that differ in literal k alone, done for the pairs in order of their lower rows.
-- The lower rows come in blocks of 2 ^ k, and after each block as many rows are passed by, which have the literal (`block_done`). Writing the pair at a
-- place leaves the other pairs alone (`more`). A row that has the literal is the higher one of the pair at the row without it, so what the pass does
-- to the pairs it does to all codes (`raise_pairs`, `lower_pairs`).
use mathlib.Core.Path.{◌≡◌, refl, sym, ◌∙◌}
use mathlib.Core.Logic.{◌≢◌}
use mathlib.Core.List.{List}
use Prim.Native.Nat.{ℕ, zero, suc, ◌+◌, ◌-◌, ◌*◌, ◌/◌, ◌%◌, ◌^◌, ◌≤◌, ◌<◌, min, max}
use native.Mathlib.Decide.{ℕ_discrete}
use native.Mathlib.Omega.{arith}
use lib.Bits.{bit_or}
use lib.Pow.{pow_mono}
use lib.ListN.{length, get_or, set, length-set}
use lib.Seq.{get_or-set_same, get_or-set_other}
use Rattle.fuzzy.specs.Phrase.{has}
use Rattle.fuzzy.proofs.Literals.{has_lt, has_le, has_or, less_has}
use Rattle.rows.specs.Square.{square}
use Rattle.rows.specs.Stage.{raise, lower}
use Rattle.rows.proofs.Stage.{more_has, more_lt}
use Rattle.rows.proofs.Rows.{all_codes, square_row, raise_across, lower_across}

-- 1 shifted by less than 6 is a power of two below 64
pub one_shifted : (k : ℕ) → k < 6 → 1 * 2 ^ k % 18446744073709551616 ≡ 2 ^ k
one_shifted k l = omega (arith, pow_mono {i = k} {j = 5} (omega arith))

-- what holds at each of the six literals holds at all
six : (P : ℕ → Type 0) → P 0 → P 1 → P 2 → P 3 → P 4 → P 5 → (k : ℕ) → k < 6 → P k
six P a b c d e f zero l = a
six P a b c d e f (suc zero) l = b
six P a b c d e f (suc (suc zero)) l = c
six P a b c d e f (suc (suc (suc zero))) l = d
six P a b c d e f (suc (suc (suc (suc zero)))) l = e
six P a b c d e f (suc (suc (suc (suc (suc zero))))) l = f
six P a b c d e f (suc (suc (suc (suc (suc (suc k)))))) l = absurd (omega arith)

-- the rows of a block lack the literal
lacks_at : (k : ℕ) → k < 6 → (h l : ℕ) → l < 2 ^ k → has (h * 2 * 2 ^ k + l) k ≡ 0
unfolding has
lacks_at =
    six (λ k. (h l : ℕ) → l < 2 ^ k → has (h * 2 * 2 ^ k + l) k ≡ 0) (λ h l lt. omega arith) (λ h l lt. omega arith) (λ h l lt. omega arith)
    (λ h l lt. omega arith) (λ h l lt. omega arith) (λ h l lt. omega arith)

-- they are among the 64
fits_at : (k : ℕ) → k < 6 → (h l : ℕ) → h < 32 / 2 ^ k → l < 2 ^ k → h * 2 * 2 ^ k + l < 64
fits_at =
    six (λ k. (h l : ℕ) → h < 32 / 2 ^ k → l < 2 ^ k → h * 2 * 2 ^ k + l < 64) (λ h l b lt. omega arith) (λ h l b lt. omega arith)
    (λ h l b lt. omega arith) (λ h l b lt. omega arith) (λ h l b lt. omega arith) (λ h l b lt. omega arith)

-- a row before the next block that lacks the literal is before this one's end
in_block : (k : ℕ) → k < 6 → (h i : ℕ) → has i k ≡ 0 → i < (h + 1) * 2 * 2 ^ k → i < h * 2 * 2 ^ k + 2 ^ k
unfolding has
in_block =
    six (λ k. (h i : ℕ) → has i k ≡ 0 → i < (h + 1) * 2 * 2 ^ k → i < h * 2 * 2 ^ k + 2 ^ k) (λ h i z b. omega arith) (λ h i z b. omega arith)
    (λ h i z b. omega arith) (λ h i z b. omega arith) (λ h i z b. omega arith) (λ h i z b. omega arith)

-- the next block is past this one's end
past_block : (k : ℕ) → k < 6 → (h : ℕ) → h * 2 * 2 ^ k + 2 ^ k ≤ (h + 1) * 2 * 2 ^ k
past_block =
    six (λ k. (h : ℕ) → h * 2 * 2 ^ k + 2 ^ k ≤ (h + 1) * 2 * 2 ^ k) (λ h. omega arith) (λ h. omega arith) (λ h. omega arith) (λ h. omega arith)
    (λ h. omega arith) (λ h. omega arith)

-- after the last block there is none
last_at : (k : ℕ) → k < 6 → (h : ℕ) → 32 / 2 ^ k ≤ h → 64 ≤ h * 2 * 2 ^ k
last_at =
    six (λ k. (h : ℕ) → 32 / 2 ^ k ≤ h → 64 ≤ h * 2 * 2 ^ k) (λ h b. omega arith) (λ h b. omega arith) (λ h b. omega arith)
    (λ h b. omega arith) (λ h b. omega arith) (λ h b. omega arith)

-- the pairs with the lower row before `at` are as the pass gives them, the others as they were
abbrev pub Done : (ℕ → ℕ → ℕ → ℕ × ℕ → Type 0) → ℕ → List ℕ → ℕ → List ℕ → Type 0
Done Post k m at r = (length r ≡ 64) × ((i : ℕ) → i < 64 → has i k ≡ 0
    → (i < at → Post i (get_or m i 0) (get_or m (i + 2 ^ k) 0) (get_or r i 0, get_or r (i + 2 ^ k) 0))
    × (at ≤ i → (get_or r i 0 ≡ get_or m i 0) × (get_or r (i + 2 ^ k) 0 ≡ get_or m (i + 2 ^ k) 0)))

-- a row that lacks the literal is no row that has it
apart : (k i j : ℕ) → has i k ≡ 0 → has j k ≡ 0 → i ≢ j + 2 ^ k
apart k i j zi zj e = let o : has i k ≡ 1 = rw e (more_has j k zj) in omega arith

module _ (Post : ℕ → ℕ → ℕ → ℕ × ℕ → Type 0) (k : ℕ) (few : k < 6) (m : List ℕ) where
  -- before the first pair all rows are as they were
  pub none_done : length m ≡ 64 → Done Post k m 0 m
  none_done l = (l, λ i li z. (λ b. absurd (omega arith), λ b. (refl, refl)))

  -- one pair more
  more : (at : ℕ) → at < 64 → has at k ≡ 0 → (r : List ℕ) (x y : ℕ) → Done Post k m at r
      → Post at (get_or r at 0) (get_or r (at + 2 ^ k) 0) (x, y) → Done Post k m (at + 1) (set (set r at x) (at + 2 ^ k) y)
  more at la za r x y (lr, done) new = (simp length-set lr, λ i li z. turn i li z (ℕ_discrete i at))
    where
      fits : at + 2 ^ k < 64
      fits = more_lt 6 at k la few za

      old : (get_or r at 0 ≡ get_or m at 0) × (get_or r (at + 2 ^ k) 0 ≡ get_or m (at + 2 ^ k) 0)
      old = (done at la za).1 (omega arith)

      low_same : get_or (set (set r at x) (at + 2 ^ k) y) at 0 ≡ x
      low_same = get_or-set_other (set r at x) (at + 2 ^ k) at y 0 (apart k at at za za) ∙ get_or-set_same r at x 0 (omega arith)

      high_same : get_or (set (set r at x) (at + 2 ^ k) y) (at + 2 ^ k) 0 ≡ y
      high_same = get_or-set_same (set r at x) (at + 2 ^ k) y 0 (simp length-set (omega (arith, fits, lr)))

      other : (i : ℕ) → i ≢ at → i ≢ at + 2 ^ k → get_or (set (set r at x) (at + 2 ^ k) y) i 0 ≡ get_or r i 0
      other i d e = get_or-set_other (set r at x) (at + 2 ^ k) i y 0 e ∙ get_or-set_other r at i x 0 d

      turn : (i : ℕ) → i < 64 → has i k ≡ 0 → Dec (i ≡ at)
          → (i < at + 1 → Post i (get_or m i 0) (get_or m (i + 2 ^ k) 0)
          (get_or (set (set r at x) (at + 2 ^ k) y) i 0, get_or (set (set r at x) (at + 2 ^ k) y) (i + 2 ^ k) 0))
          × (at + 1 ≤ i → (get_or (set (set r at x) (at + 2 ^ k) y) i 0 ≡ get_or m i 0)
          × (get_or (set (set r at x) (at + 2 ^ k) y) (i + 2 ^ k) 0 ≡ get_or m (i + 2 ^ k) 0))
      turn i li z (yes e) = (λ b. rw (e, low_same, high_same) (rw (old.0, old.1) at new), λ b. absurd (omega arith))
      turn i li z (no d) =
          rw (other i d (apart k i at z za), other (i + 2 ^ k) (λ e. apart k at i za z (sym e)) (λ e. d (omega arith)))
          (λ b. (done i li z).0 (omega arith), λ b. (done i li z).1 (omega arith))

  -- so it is within a block
  pub turn_done : (step h l : ℕ) → step ≡ 2 ^ k → h < 32 / 2 ^ k → l < step → (r : List ℕ) (x y : ℕ) → Done Post k m (h * 2 * 2 ^ k + l) r
      → Post (h * 2 * step + l) (get_or r (h * 2 * step + l) 0) (get_or r (h * 2 * step + l + step) 0) (x, y)
      → Done Post k m (h * 2 * 2 ^ k + (l + 1)) (set (set r (h * 2 * step + l) x) (h * 2 * step + l + step) y)
  turn_done step h l e lh ll r x y =
      let next : h * 2 * 2 ^ k + (l + 1) ≡ h * 2 * 2 ^ k + l + 1 = omega arith in
      rw (e, next) (more (h * 2 * 2 ^ k + l) (fits_at k few h l lh (rw e at ll)) (lacks_at k few h l (rw e at ll)) r x y)

  -- past a block of pairs
  pub block_done : (h l : ℕ) (r : List ℕ) → l ≡ 2 ^ k → Done Post k m (h * 2 * 2 ^ k + l) r → Done Post k m ((h + 1) * 2 * 2 ^ k) r
  block_done h l r e (lr, done) = (
    lr,
    λ i li z. (
      λ b. (done i li z).0 (omega (arith, in_block k few h i z b, e)),
      λ b. (done i li z).1 (omega (arith, past_block k few h, b, e)),
    ),
  )

  -- past the last block all are done
  pub all_done : (h : ℕ) (r : List ℕ) → 32 / 2 ^ k ≤ h → Done Post k m (h * 2 * 2 ^ k) r
      → (i : ℕ) → i < 64 → has i k ≡ 0 → Post i (get_or m i 0) (get_or m (i + 2 ^ k) 0) (get_or r i 0, get_or r (i + 2 ^ k) 0)
  all_done h r past (lr, done) i li z = (done i li z).0 (omega (arith, last_at k few h past))

-- a bit that a test lets in
or_let : (t x y b : ℕ) → t ≡ 1 → has (bit_or x y) b ≡ max (has x b) (min t (has y b))
or_let t x y b e = rw (has_or x y b, e) (omega (arith, has_lt y b))

-- a bit that it keeps out
or_kept : (t x y : ℕ) → t ≡ 0 → x ≡ max x (min t y)
or_kept t x y e = omega arith

module _ (k : ℕ) (few : k < 6) (m from r : List ℕ) where
  -- pairs whose higher row has the lower one of `from` too are raised by it
  pub raise_pairs : ((i : ℕ) → i < 64 → has i k ≡ 0
      → (get_or r i 0 ≡ get_or m i 0) × (get_or r (i + 2 ^ k) 0 ≡ bit_or (get_or m (i + 2 ^ k) 0) (get_or from i 0)))
      → (c : ℕ) → c < 4096 → square r c ≡ max (square m c) (raise (6 + k) (square from) c)
  raise_pairs h c l =
      rw (square_row m c, raise_across from k c) (all_codes r pass (λ i li b lb. at i li b (ℕ_discrete (has i k) 0)) c l)
    where
      pass : ℕ → ℕ → ℕ
      pass i b = max (has (get_or m i 0) b) (min (has i k) (has (get_or from (i - 2 ^ k) 0) b))

      at : (i : ℕ) → i < 64 → (b : ℕ) → Dec (has i k ≡ 0) → has (get_or r i 0) b ≡ pass i b
      at i li b (yes z) = rw (h i li z).0 (or_kept (has i k) _ _ z)
      at i li b (no d) =
          let o : has i k ≡ 1 = omega (arith, has_lt i k) in
          let back : i - 2 ^ k + 2 ^ k ≡ i = omega (arith, has_le i k o) in
          let p = rw back at (h (i - 2 ^ k) (omega arith) (less_has i k o)).1 in
          rw p (or_let (has i k) (get_or m i 0) (get_or from (i - 2 ^ k) 0) b o)

  -- pairs whose lower row has the higher one of `from` too are lowered by it
  pub lower_pairs : ((i : ℕ) → i < 64 → has i k ≡ 0
      → (get_or r i 0 ≡ bit_or (get_or m i 0) (get_or from (i + 2 ^ k) 0)) × (get_or r (i + 2 ^ k) 0 ≡ get_or m (i + 2 ^ k) 0))
      → (c : ℕ) → c < 4096 → square r c ≡ max (square m c) (lower (6 + k) (square from) c)
  lower_pairs h c l =
      rw (square_row m c, lower_across from k c) (all_codes r pass (λ i li b lb. at i li b (ℕ_discrete (has i k) 0)) c l)
    where
      pass : ℕ → ℕ → ℕ
      pass i b = max (has (get_or m i 0) b) (min (1 - has i k) (has (get_or from (i + 2 ^ k) 0) b))

      at : (i : ℕ) → i < 64 → (b : ℕ) → Dec (has i k ≡ 0) → has (get_or r i 0) b ≡ pass i b
      at i li b (yes z) = rw (h i li z).0 (or_let (1 - has i k) (get_or m i 0) (get_or from (i + 2 ^ k) 0) b (omega arith))
      at i li b (no d) =
          let o : has i k ≡ 1 = omega (arith, has_lt i k) in
          let back : i - 2 ^ k + 2 ^ k ≡ i = omega (arith, has_le i k o) in
          let p = rw back at (h (i - 2 ^ k) (omega arith) (less_has i k o)).1 in
          rw p (or_kept (1 - has i k) _ _ (omega arith))
