-- The points that phrases with other pairs are within, set by set: those of a set come from the sets with a pair less, which are smaller numbers.
--   UnderFirst L low i   for the sets of pairs below i, low has the points that have phrases of L with other pairs within them
--   Told L P i points    the points that have phrases of L within them with one of the first i pairs less
use mathlib.Core.Path.{◌≡◌, refl, sym, ap, ◌∙◌}
use mathlib.Core.Logic.{◌⊎◌, inl, inr, ◌↔◌, ◌≢◌, ⊎_elim}
use mathlib.Core.Logic.Iff
use mathlib.Core.List.{List}
use Prim.Native.Nat.{ℕ, ◌+◌, ◌-◌, ◌/◌, ◌^◌, ◌≤◌, ◌<◌}
use native.Mathlib.Decide.{ℕ_discrete}
use native.Mathlib.Omega.{arith}
use lib.Bits.{bit_and, bit_or}
use lib.ListN.{length, get_or, set}
use lib.Pow.{pow_pos}
use lib.Seq.{get_or-set_same, get_or-set_other}
use Rattle.fuzzy.specs.Phrase.{has, less}
use Rattle.fuzzy.proofs.Literals.{has_lt, has_none, has_or, has_le, less_smaller, less_has, less_others}
use Rattle.fuzzy.proofs.Within.{Within}
use Rattle.rows.proofs.Rows.{meets_has, misses_has}
use Rattle.rows.proofs.Shift.{has_shr}
use Rattle.rows.proofs.Stage.{more_others, more_lt}
use Rattle.sheets.specs.Cell.{Clear, Fewer, Owned, Under, point}
use Rattle.sheets.proofs.Cells.{Halved, reaches, fewer_splits}

-- for the sets of pairs below i, low has the points that have phrases of L with other pairs within them
abbrev pub UnderFirst : List ℕ → List ℕ → ℕ → Type 0
UnderFirst L low i = (P x : ℕ) → P < i → x < 64 → Clear P x → (has (get_or low P 0) x ≡ 1) ↔ Fewer L P x

-- the points that have phrases of L within them with one of the first i pairs less
abbrev pub Told : List ℕ → ℕ → ℕ → ℕ → Type 0
Told L P i points = (x : ℕ) → x < 64 → Clear P x → (has points x ≡ 1) ↔ ((k : ℕ) × (k < i) × (has P k ≡ 1) × Halved L P x k)

-- a bit of either
pub or_says : (a b x : ℕ) → (has (bit_or a b) x ≡ 1) ↔ ((has a x ≡ 1) ⊎ (has b x ≡ 1))
or_says a b x = (λ e. at e (ℕ_discrete (has a x) 1), ⊎_elim (λ (h : has a x ≡ 1). omega (arith, has_or a b x, has_lt b x)) (λ (h : has b x ≡ 1). omega (arith, has_or a b x, has_lt a x)))
  where
    at : has (bit_or a b) x ≡ 1 → Dec (has a x ≡ 1) → (has a x ≡ 1) ⊎ (has b x ≡ 1)
    at e (yes h) = inl h
    at e (no d) = inr (omega (arith, has_or a b x, has_lt a x))

-- where the test finds a pair, the set with that pair less is there
pub pair_fits : (P i : ℕ) → P < 64 → bit_and P (2 ^ i) ≢ 0 → 2 ^ i ≤ P
pair_fits P i l d = has_le P i (meets_has P i d)

module _ (L : List ℕ) where
  -- before the first pair
  pub told_none : (P : ℕ) → Told L P 0 0
  told_none P x lx clear = (λ e. absurd (omega (arith, has_none 0 x (pow_pos x))), λ (k, l, one, h). absurd (omega arith))

  -- a variable that is no pair is passed
  pub told_same : (P i points : ℕ) → bit_and P (2 ^ i) ≡ 0 → Told L P i points → Told L P (i + 1) points
  told_same P i points z t x lx clear = (
    λ e. let (k, l, one, h) = (t x lx clear).0 e in (k, omega arith, one, h),
    λ (k, l, one, h). at k l one h (ℕ_discrete k i),
  )
    where
      at : (k : ℕ) → k < i + 1 → has P k ≡ 1 → Halved L P x k → Dec (k ≡ i) → has points x ≡ 1
      at k l one h (yes e) = absurd (omega (arith, misses_has P i z, rw e at one))
      at k l one h (no d) = (t x lx clear).1 (k, omega arith, one, h)

  module _ (P i : ℕ) (lP : P < 64) (li : i < 6) (d : bit_and P (2 ^ i) ≢ 0) where
    pair : has P i ≡ 1
    pair = meets_has P i d

    module _ (own low : List ℕ) (owned : Owned L own) (under : UnderFirst L low P) where
      abbrev fewer : ℕ
      fewer = bit_or (get_or own (P - 2 ^ i) 0) (get_or low (P - 2 ^ i) 0)

      clear_less : (x y : ℕ) → Clear P x → ((j : ℕ) → j ≢ i → has y j ≡ has x j) → Clear (less P i) y
      clear_less x y clear same j l = at (ℕ_discrete j i)
        where
          at : Dec (j ≡ i) → has (less P i) j + has y j ≤ 1
          at (yes e) = rw e (omega (arith, less_has P i pair, has_lt y i))
          at (no ne) = rw (less_others P i j pair ne, same j ne) (clear j l)

      whole : (y : ℕ) → y < 64 → Clear (less P i) y → (has fewer y ≡ 1) ↔ Within 6 L (point (less P i) y)
      whole y ly clear = Iff.trans (or_says (get_or own (P - 2 ^ i) 0) (get_or low (P - 2 ^ i) 0) y)
          (Iff.trans (
            ⊎_elim (λ h. inr ((owned (P - 2 ^ i) y (omega arith) ly).0 h)) (λ h. inl ((under (P - 2 ^ i) y (less_smaller P i pair) ly clear).0 h)),
            ⊎_elim (λ h. inr ((under (P - 2 ^ i) y (less_smaller P i pair) ly clear).1 h)) (λ h. inl ((owned (P - 2 ^ i) y (omega arith) ly).1 h)),
          )
          (Iff.symm (reaches L (less P i) y clear)))

      halved : (x : ℕ) → x < 64 → Clear P x → (has (bit_or fewer (fewer / 2 ^ 2 ^ i)) x ≡ 1) ↔ Halved L P x i
      halved x lx clear = Iff.trans (or_says fewer (fewer / 2 ^ 2 ^ i) x) (
        ⊎_elim (λ h. inl (here.0 h)) (λ h. inr (there.0 (sym shifted ∙ h))),
        ⊎_elim (λ h. inl (here.1 h)) (λ h. inr (shifted ∙ there.1 h)),
      )
        where
          none : has x i ≡ 0
          none = omega (arith, clear i li, pair)

          shifted : has (fewer / 2 ^ 2 ^ i) x ≡ has fewer (x + 2 ^ i)
          shifted = rw (has_shr fewer (2 ^ i) x) (ap (has fewer) (omega arith))

          here : (has fewer x ≡ 1) ↔ Within 6 L (point (less P i) x)
          here = whole x lx (clear_less x x clear (λ j ne. refl))

          there : (has fewer (x + 2 ^ i) ≡ 1) ↔ Within 6 L (point (less P i) (x + 2 ^ i))
          there = whole (x + 2 ^ i) (more_lt 6 x i lx li none) (clear_less x (x + 2 ^ i) clear (λ j ne. more_others x i j none ne))

      -- a pair adds the points that have phrases within them without it
      pub told_more : (points : ℕ) → Told L P i points
          → Told L P (i + 1) (bit_or points (bit_or fewer (fewer / 2 ^ 2 ^ i)))
      told_more points t x lx clear = (
        λ e. ⊎_elim (λ h. let (k, l, one, w) = (t x lx clear).0 h in (k, omega arith, one, w)) (λ h. (i, omega arith, pair, (halved x lx clear).0 h)) ((or_says points _ x).0 e),
        λ (k, l, one, w). (or_says points _ x).1 (at k l one w (ℕ_discrete k i)),
      )
        where
          at : (k : ℕ) → k < i + 1 → has P k ≡ 1 → Halved L P x k → Dec (k ≡ i) → (has points x ≡ 1) ⊎ (has (bit_or fewer (fewer / 2 ^ 2 ^ i)) x ≡ 1)
          at k l one w (yes e) = inr ((halved x lx clear).1 (rw e at w))
          at k l one w (no ne) = inl ((t x lx clear).1 (k, omega arith, one, w))

  -- once all pairs are met, a set more is known
  pub under_more : (low : List ℕ) (P points i : ℕ) → P < 64 → length low ≡ 64 → 6 ≤ i → i ≤ 6 → Told L P i points → UnderFirst L low P → UnderFirst L (set low P points) (P + 1)
  under_more low P points i lP len past most t under Q x lQ lx clear = at (ℕ_discrete Q P)
    where
      six : i ≡ 6
      six = omega arith

      at : Dec (Q ≡ P) → (has (get_or (set low P points) Q 0) x ≡ 1) ↔ Fewer L Q x
      at (yes e) = rw (e, get_or-set_same low P points 0 (omega arith)) (Iff.trans (rw six at (t x lx (rw e at clear))) (Iff.symm (fewer_splits L P x lP (rw e at clear))))
      at (no ne) = rw (get_or-set_other low P Q points 0 ne) (under Q x (omega arith) lx clear)

  -- and once all sets are
  pub under_all : (low : List ℕ) (i : ℕ) → 64 ≤ i → UnderFirst L low i → Under L low
  under_all low i past under P x lP lx clear = under P x (omega arith) lx clear
