-- One code among the marks: what is marked once it is taken out (`removed_says`), whether it is marked (`held_says`), and whether some marked code
-- has all of its literals (`covered_says`).
-- A code has all of another's literals where its row has all of the other's row and its bit all of the other's bit (`split`, `join`).
-- The bits that have all of one bit's are that bit closed upwards (`bits_above`); what was found is what the rows mark that were met and have all of
-- the code's row (`Gathered`). Such rows are met one after the other: how many come before (`rank`) goes up by one a turn (`rank_next`), so none is
-- left out, and 64 halved for each literal of the code's row are all of them (`rank_end`).
use borrow.Author.Tests.{eqb-false, ne_eqb, not-true}
use mathlib.Core.Path.{◌≡◌, refl, sym, ap, ◌∙◌}
use mathlib.Core.Bool.{true, not}
use mathlib.Core.Logic.{◌≢◌, ◌↔◌}
use mathlib.Core.List.{List}
use Prim.Native.Nat.{ℕ, zero, suc, ◌+◌, ◌-◌, ◌*◌, ◌/◌, ◌%◌, ◌^◌, ◌≤◌, ◌<◌, min}
use native.Mathlib.Nat.{mod-lt}
use native.Mathlib.Decide.{ℕ_discrete, dec_le, dec_lt}
use native.Mathlib.Omega.{arith}
use lib.Bits.{bit_and, bit_or, and_step, or_step, or_zero_r, and_le_l, and_le_r, or_add_and, and_self}
use lib.Count.{ones}
use lib.Dec.{eqb}
use mir.Syntax.{w64}
use lib.ListN.{length, get_or, set}
use lib.Pow.{pow_pos}
use lib.Seq.{get_or-set_same, get_or-set_other}
use Rattle.fuzzy.specs.Phrase.{has, Subsumes}
use Rattle.fuzzy.proofs.Literals.{has_lt, has_or, has_and, has_none, has_one, has_itself, has_high}
use Rattle.fuzzy.proofs.Subsumes.{subsumes_and}
use Rattle.std.specs.Int.{trailing_zeros}
use Rattle.std.proofs.lemmas.Bool.{agree_below_at, eqb-true}
use Rattle.std.proofs.lemmas.Nat.{one_shl, and_or_self}
use Rattle.std.proofs.lemmas.Nat.Bits.{bit_at-trailing_zeros, shr_and_one}
use Rattle.rows.specs.Square.{square, Marked}
use Rattle.rows.specs.Stage.{raise, closed_up}
use Rattle.rows.specs.Pass.{Removed, Held, Covered}
use Rattle.rows.proofs.Rows.{has_bit, has_row}
use Rattle.rows.proofs.Stage.{closed_up_lem}

-- a number is tested for being none
tested : (x : ℕ) → (not (eqb x 0) ≡ true) ↔ (x ≢ 0)
tested x = (λ e z. eqb-false x 0 (not-true (eqb x 0) e) z, λ d. ap not (ne_eqb x 0 d))

module _ (m : List ℕ) (code : ℕ) where
  module _ (v : ℕ) (len : length m ≡ 64) (l : code < 4096)
      (out : (b : ℕ) → b < 64 → has v b ≡ min (has (get_or m (code / 64) 0) b) (1 - has (1 * 2 ^ (code % 64) % 18446744073709551616) b)) where
    -- the marks with the code's bit taken out of its row
    abbrev pub taken : List ℕ
    taken = set m (code / 64) v

    -- a bit of the code's own row
    taken_has : (b : ℕ) → b < 64 → has (get_or taken (code / 64) 0) b ≡ min (has (get_or m (code / 64) 0) b) (1 - has (2 ^ (code % 64)) b)
    taken_has b lb = rw (get_or-set_same m (code / 64) v 0 (omega arith), ← one_shl (code % 64) 64 (mod-lt code (omega arith))) (out b lb)

    taken_itself : square taken code ≡ 0
    unfolding square
    taken_itself = omega (arith, taken_has (code % 64) (omega arith), has_itself (code % 64))

    taken_other : (c : ℕ) → c ≢ code → square taken c ≡ square m c
    unfolding square
    taken_other c d = at (ℕ_discrete (c / 64) (code / 64))
      where
        at : Dec (c / 64 ≡ code / 64) → has (get_or taken (c / 64) 0) (c % 64) ≡ has (get_or m (c / 64) 0) (c % 64)
        at (yes e) =
            rw (e, taken_has (c % 64) (omega arith))
            (omega (arith, has_one (code % 64) (c % 64) (λ s. d (omega arith)), has_lt (get_or m (code / 64) 0) (c % 64)))
        at (no n) = rw (get_or-set_other m (code / 64) (c / 64) v 0 n)

    -- with the code's bit taken out of its row the other marks are left
    pub removed_says : Removed m code (set m (code / 64) v)
    removed_says c lc = (
      λ (k, e). at e (ℕ_discrete c code),
      λ ((k, e), d). (lc, taken_other c d ∙ e),
    )
      where
        at : square taken c ≡ 1 → Dec (c ≡ code) → Marked m c × (c ≢ code)
        at e (yes s) = let z : square taken c ≡ 0 = rw s taken_itself in absurd (omega arith)
        at e (no d) = ((lc, sym (taken_other c d) ∙ e), d)

  -- the code's bit in its row says whether it is marked
  pub held_says : code < 4096 → Held m code (not (eqb (bit_and (get_or m (code / 64) 0 / 2 ^ (code % 64)) 1) 0))
  unfolding square has
  held_says l = (λ t. (l, omega (arith, e, test.0 t)), λ (k, o). test.1 (λ z. absurd (omega (arith, e))))
    where
      e : bit_and (get_or m (code / 64) 0 / 2 ^ (code % 64)) 1 ≡ get_or m (code / 64) 0 / 2 ^ (code % 64) % 2
      e = shr_and_one (get_or m (code / 64) 0) (code % 64)

      test : (not (eqb (bit_and (get_or m (code / 64) 0 / 2 ^ (code % 64)) 1) 0) ≡ true) ↔ (bit_and (get_or m (code / 64) 0 / 2 ^ (code % 64)) 1 ≢ 0)
      test = tested (bit_and (get_or m (code / 64) 0 / 2 ^ (code % 64)) 1)

-- a code lacks the literals from 6 on where it is below 64, so closing over them changes nothing
up_few : (f : ℕ → ℕ) (k c : ℕ) → c < 64 → 6 ≤ k → closed_up (suc k) f c ≡ closed_up k f c
unfolding closed_up raise
up_few f k c l h = rw (has_high 3 c k l h) (omega arith)

up_twelve : (f : ℕ → ℕ) (c : ℕ) → c < 64 → closed_up 12 f c ≡ closed_up 6 f c
up_twelve f c l =
    up_few f 11 c l (omega arith) ∙ up_few f 10 c l (omega arith) ∙ up_few f 9 c l (omega arith)
    ∙ up_few f 8 c l (omega arith) ∙ up_few f 7 c l (omega arith) ∙ up_few f 6 c l (omega arith)

-- a bit closed upwards marks the bits that have all of its literals
bits_above : (low b : ℕ) → low < 64 → b < 64 → (closed_up 6 (has (2 ^ low)) b ≡ 1) ↔ Subsumes 6 b low
bits_above low b ll lb = (
  λ e. let (q, (lq, o), s) = says.0 (up_twelve (has (2 ^ low)) b lb ∙ e) in at q o s (ℕ_discrete q low),
  λ s. sym (up_twelve (has (2 ^ low)) b lb) ∙ says.1 (low, (omega arith, has_itself low), s),
)
  where
    says : (closed_up 12 (has (2 ^ low)) b ≡ 1) ↔ ((q : ℕ) × ((q < 4096) × (has (2 ^ low) q ≡ 1)) × Subsumes 6 b q)
    says = closed_up_lem (has (2 ^ low)) (has_lt (2 ^ low)) b (omega arith)

    at : (q : ℕ) → has (2 ^ low) q ≡ 1 → Subsumes 6 b q → Dec (q ≡ low) → Subsumes 6 b low
    at q o s (yes e) = rw e at s
    at q o s (no d) = absurd (omega (arith, has_one low q d))

module _ (q code : ℕ) where
  -- a code has all of another's literals where its row and its bit have
  split : Subsumes 6 q code → Subsumes 3 (q / 64) (code / 64) × Subsumes 6 (q % 64) (code % 64)
  split s = (λ k l. rw (has_row q k, has_row code k) at (s (6 + k) (omega arith)), low)
    where
      at : (k : ℕ) → k < 12 → Dec (6 ≤ k) → has (code % 64) k ≤ has (q % 64) k
      at k l (yes h) = rw (has_high 3 (code % 64) k (mod-lt code (omega arith)) h) (omega arith)
      at k l (no d) = rw (← has_bit code k (omega arith), ← has_bit q k (omega arith)) (s k l)

      low : Subsumes 6 (q % 64) (code % 64)
      low k l = at k l (dec_le 6 k)

  join : Subsumes 3 (q / 64) (code / 64) → Subsumes 6 (q % 64) (code % 64) → Subsumes 6 q code
  join high low k l = at (dec_le 6 k)
    where
      late : (j : ℕ) → j < 6 → has code (6 + j) ≤ has q (6 + j)
      late j lj = rw (has_row q j, has_row code j) (high j lj)

      at : Dec (6 ≤ k) → has code k ≤ has q k
      at (yes h) = let e : 6 + (k - 6) ≡ k = omega arith in rw e at (late (k - 6) (omega arith))
      at (no d) = rw (has_bit code k (omega arith), has_bit q k (omega arith)) (low k l)

-- the halves of a number that has all of h have all of h's halves
half_all : (i h : ℕ) → bit_and i h ≡ h → (bit_and (i / 2) (h / 2) ≡ h / 2) × (h % 2 ≤ i % 2)
half_all i h all = (omega (arith, and_step i h), omega (arith, and_step i h))

-- a number with a bit put below it, unless it is left out
below : ℕ → ℕ → ℕ → ℕ
below zero bit number = 2 * number + bit
below (suc out) bit number = number

-- the number that i's bits make without those where h, of n bits, has one: where i has all of h, how many numbers before it have
pub rank : ℕ → ℕ → ℕ → ℕ
rank zero h i = i
rank (suc n) h i = below (h % 2) (i % 2) (rank n (h / 2) (i / 2))

-- what comes after a number that has all of h has a higher rank
rank_rises : (n h i j : ℕ) → bit_and i h ≡ h → i < j → rank n h i < rank n h j
unfolding rank below
rank_rises zero h i j all l = l
rank_rises (suc n) h i j all l = at (h % 2) refl (ℕ_discrete (i / 2) (j / 2)) (rank_rises n (h / 2) (i / 2) (j / 2) (half_all i h all).0)
  where
    at : (b : ℕ) → h % 2 ≡ b → Dec (i / 2 ≡ j / 2) → (i / 2 < j / 2 → rank n (h / 2) (i / 2) < rank n (h / 2) (j / 2))
        → below b (i % 2) (rank n (h / 2) (i / 2)) < below b (j % 2) (rank n (h / 2) (j / 2))
    at zero e (yes s) more = rw s (omega arith)
    at zero e (no d) more = omega (arith, more (omega arith))
    at (suc b) e (yes s) more = absurd (omega (arith, (half_all i h all).1))
    at (suc b) e (no d) more = more (omega arith)

-- from 2 ^ n on no rank is below that of 2 ^ n
rank_past : (n h i : ℕ) → 2 ^ n ≤ i → rank n h (2 ^ n) ≤ rank n h i
unfolding rank below
rank_past zero h i l = l
rank_past (suc n) h i l = at (h % 2) (rank_past n (h / 2) (i / 2) (omega arith))
  where
    at : (b : ℕ) → rank n (h / 2) (2 ^ n) ≤ rank n (h / 2) (i / 2)
        → below b (2 ^ suc n % 2) (rank n (h / 2) (2 ^ suc n / 2)) ≤ below b (i % 2) (rank n (h / 2) (i / 2))
    at zero more = let half : 2 ^ suc n / 2 ≡ 2 ^ n = omega arith in rw half (omega arith)
    at (suc b) more = let half : 2 ^ suc n / 2 ≡ 2 ^ n = omega arith in rw half more

-- before h itself no number has all of it
rank_itself : (n h : ℕ) → h < 2 ^ n → rank n h h ≡ 0
unfolding rank below
rank_itself zero h l = omega arith
rank_itself (suc n) h l = at (h % 2) refl (rank_itself n (h / 2) (omega arith))
  where
    at : (b : ℕ) → h % 2 ≡ b → rank n (h / 2) (h / 2) ≡ 0 → below b (h % 2) (rank n (h / 2) (h / 2)) ≡ 0
    at zero e first = omega arith
    at (suc b) e first = first

-- the next rank after i's is that of `bit_or (i + 1) h`
rank_next : (n h i : ℕ) → h < 2 ^ n → bit_and i h ≡ h → rank n h (bit_or (i + 1) h) ≡ rank n h i + 1
unfolding rank below
rank_next zero h i l all = let e : h ≡ 0 = omega arith in rw (e, or_zero_r (i + 1))
rank_next (suc n) h i l all = at (h % 2) refl (ℕ_discrete (i % 2) 0) (rank_next n (h / 2) (i / 2) (omega arith) (half_all i h all).0)
  where
    odd : i % 2 ≢ 0 → (bit_or (i + 1) h / 2 ≡ bit_or (i / 2 + 1) (h / 2)) × (bit_or (i + 1) h % 2 ≡ h % 2)
    odd d = let up : (i + 1) / 2 ≡ i / 2 + 1 = omega arith in let step = rw up at (or_step (i + 1) h) in (omega arith, omega arith)

    even : i % 2 ≡ 0 → bit_or (i + 1) h ≡ i + 1
    even z =
        let up : (i + 1) / 2 ≡ i / 2 = omega arith in
        let step = rw up at (and_step (i + 1) h) in
        omega (arith, or_add_and (i + 1) h, half_all i h all)

    at : (b : ℕ) → h % 2 ≡ b → Dec (i % 2 ≡ 0) → rank n (h / 2) (bit_or (i / 2 + 1) (h / 2)) ≡ rank n (h / 2) (i / 2) + 1
        → below b (bit_or (i + 1) h % 2) (rank n (h / 2) (bit_or (i + 1) h / 2)) ≡ below b (i % 2) (rank n (h / 2) (i / 2)) + 1
    at zero e (yes z) more = let up : (i + 1) / 2 ≡ i / 2 = omega arith in rw (even z, up) (omega arith)
    at zero e (no d) more = rw (odd d).0 (omega (arith, (odd d).1))
    at (suc b) e (yes z) more = absurd (omega (arith, (half_all i h all).1))
    at (suc b) e (no d) more = rw (odd d).0 more

-- before 64 there are 64 halved for each literal of h, by a test of all 64
rank_end : (h : ℕ) → h < 64 → 64 / 2 ^ ones h ≡ rank 6 h 64
unfolding rank below ones
rank_end h l = eqb-true _ _ (agree_below_at (λ h. eqb (64 / 2 ^ ones h) (rank 6 h 64)) (λ h. true) 64 h refl l)

module _ (m : List ℕ) (high : ℕ) where
  -- bit b is marked in a row before i that has all of high
  abbrev Among : ℕ → ℕ → Type 0
  Among i b = (r : ℕ) × (r < i) × (r < 64) × (bit_and r high ≡ high) × (has (get_or m r 0) b ≡ 1)

  -- found has the bits that are marked in the rows before i that have all of high
  abbrev pub Gathered : ℕ → ℕ → Type 0
  Gathered found i = (b : ℕ) → (has found b ≡ 1) ↔ Among i b

  -- no row before high has all of it
  pub gathered_none : Gathered 0 high
  gathered_none b = (λ e. absurd (omega (arith, has_none 0 b (pow_pos b))), λ (r, lr, l, s, e). absurd (omega (arith, and_le_l r high)))

  -- a row that has all of high is gathered
  pub gathered_more : (found i : ℕ) → i < 64 → bit_and i high ≡ high → Gathered found i → Gathered (bit_or found (get_or m i 0)) (i + 1)
  gathered_more found i li all g b = (λ e. there e (ℕ_discrete (has found b) 1), λ (r, lr, l, s, e). back r lr l s e (ℕ_discrete r i))
    where
      there : has (bit_or found (get_or m i 0)) b ≡ 1 → Dec (has found b ≡ 1) → Among (i + 1) b
      there e (yes o) = let (r, lr, l, s, h) = (g b).0 o in (r, omega arith, l, s, h)
      there e (no d) = (i, omega arith, li, all, omega (arith, has_or found (get_or m i 0) b, has_lt found b))

      back : (r : ℕ) → r < i + 1 → r < 64 → bit_and r high ≡ high → has (get_or m r 0) b ≡ 1 → Dec (r ≡ i) → has (bit_or found (get_or m i 0)) b ≡ 1
      back r lr l s e (yes o) = omega (arith, has_or found (get_or m i 0) b, rw o at e, has_lt found b)
      back r lr l s e (no d) = omega (arith, has_or found (get_or m i 0) b, (g b).1 (r, omega arith, l, s, e), has_lt (get_or m i 0) b)

  -- and where no row from i on before j has all of it, those are passed over
  pub gathered_same : (found i j : ℕ) → i ≤ j → ((r : ℕ) → i ≤ r → r < j → bit_and r high ≢ high) → Gathered found i → Gathered found j
  gathered_same found i j up none g b = (
    λ e. let (r, lr, l, s, h) = (g b).0 e in (r, omega arith, l, s, h),
    λ (r, lr, l, s, e). back r lr l s e (dec_lt r i),
  )
    where
      back : (r : ℕ) → r < j → r < 64 → bit_and r high ≡ high → has (get_or m r 0) b ≡ 1 → Dec (r < i) → has found b ≡ 1
      back r lr l s e (yes h) = (g b).1 (r, h, l, s, e)
      back r lr l s e (no d) = absurd (none r (omega arith) lr s)

-- after k turns i has all of high, k rows before it have, and found has their bits
pub record Met (m : List ℕ) (high found i k : ℕ) : Type 0 where
  pub few : high < 64
  pub all : bit_and i high ≡ high
  pub ranked : rank 6 high i ≡ k
  pub gathered : Gathered m high found i

-- at high itself none is met yet
pub met_none : (m : List ℕ) (high : ℕ) → high < 64 → Met m high 0 high 0
met_none m high l = record { few = l; all = and_self high; ranked = rank_itself 6 high l; gathered = gathered_none m high }

module _ {m : List ℕ} {high found i k : ℕ} (met : Met m high found i k) where
  -- while there are turns left i is a row
  pub met_row : k < 64 / 2 ^ ones high → i < 64
  met_row l = at (dec_lt i 64)
    where
      at : Dec (i < 64) → i < 64
      at (yes h) = h
      at (no d) = absurd (omega (arith, met.ranked, rank_end high met.few, rank_past 6 high i (omega arith)))

  -- and then all rows are met
  pub met_all : 64 / 2 ^ ones high ≤ k → 64 ≤ i
  met_all l = at (dec_lt i 64)
    where
      at : Dec (i < 64) → 64 ≤ i
      at (yes h) = absurd (omega (arith, met.ranked, rank_end high met.few, rank_rises 6 high i 64 met.all h))
      at (no d) = omega arith

  -- a turn gathers row i and goes on to the next that has all of high, since none between them has
  pub met_more : i < 64 → Met m high (bit_or found (get_or m i 0)) (bit_or (i + 1) high) (k + 1)
  met_more l = record {
    few = met.few;
    all = and_or_self high (i + 1);
    ranked = omega (arith, rank_next 6 high i met.few met.all, met.ranked);
    gathered =
        gathered_same m high (bit_or found (get_or m i 0)) (i + 1) (bit_or (i + 1) high) (omega (arith, or_add_and (i + 1) high, and_le_r (i + 1) high))
        none_between (gathered_more m high found i l met.all met.gathered);
  }
    where
      none_between : (r : ℕ) → i + 1 ≤ r → r < bit_or (i + 1) high → bit_and r high ≢ high
      none_between r late l s =
          omega (arith, rank_rises 6 high i r met.all (omega arith), rank_rises 6 high r (bit_or (i + 1) high) s l, rank_next 6 high i met.few met.all)

-- a row that is not empty has a bit
some_bit : (x : ℕ) → x < 18446744073709551616 → x ≢ 0 → (b : ℕ) × (b < 64) × (has x b ≡ 1)
unfolding has
some_bit x l d = let h = bit_at-trailing_zeros w64 x (omega arith) l in (trailing_zeros w64 x, h.0, h.1)

-- once all rows are met, a bit that was found and has all of the code's bit says that the code is covered
pub covered_says : (m : List ℕ) (code found i up : ℕ) → 64 ≤ i → up < 18446744073709551616 → Gathered m (code / 64) found i
    → ((b : ℕ) → b < 64 → has up b ≡ closed_up 6 (has (1 * 2 ^ (code % 64) % 18446744073709551616)) b)
    → Covered m code (not (eqb (bit_and found up) 0))
unfolding square
covered_says m code found i up past fits g above = (
  λ t. let (b, lb, e) = some_bit (bit_and found up) (omega (arith, and_le_r found up)) ((tested (bit_and found up)).0 t) in there b lb e,
  λ (l, (q, (lq, e), s)). (tested (bit_and found up)).1 (λ z. back q l lq e s z),
)
  where
    mask : (b : ℕ) → b < 64 → (has up b ≡ 1) ↔ Subsumes 6 b (code % 64)
    mask b lb =
        rw (above b lb, one_shl (code % 64) 64 (mod-lt code (omega arith))) (bits_above (code % 64) b (mod-lt code (omega arith)) lb)

    there : (b : ℕ) → b < 64 → has (bit_and found up) b ≡ 1 → (code < 4096) × ((q : ℕ) × Marked m q × Subsumes 6 q code)
    there b lb e =
        let both = has_and found up b in
        let (r, lr, l64, s, o) = (g b).0 (omega (arith, has_lt found b)) in
        let row : (r * 64 + b) / 64 ≡ r = omega arith in
        let bit : (r * 64 + b) % 64 ≡ b = omega arith in
        let in_rows : code / 64 < 64 = omega (arith, s, and_le_l r (code / 64)) in
        let rows = (subsumes_and 3 r (code / 64) in_rows).1 s in
        let bits = (mask b lb).0 (omega (arith, has_lt up b)) in
        (omega arith, (r * 64 + b, (omega arith, rw (row, bit) o), join (r * 64 + b) code (rw row rows) (rw bit bits)))

    back : (q : ℕ) → code < 4096 → q < 4096 → square m q ≡ 1 → Subsumes 6 q code → bit_and found up ≡ 0 → ⊥
    back q l lq e s z =
        let (rows, bits) = split q code s in
        let all = (subsumes_and 3 (q / 64) (code / 64) (omega arith)).0 rows in
        let f = (g (q % 64)).1 (q / 64, omega arith, omega arith, all, e) in
        let u = (mask (q % 64) (mod-lt q (omega arith))).1 bits in
        omega (arith, has_and found up (q % 64), ap (λ (x : ℕ). has x (q % 64)) z, has_none 0 (q % 64) (pow_pos (q % 64)))
