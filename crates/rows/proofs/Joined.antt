-- What the joined marks mean: marked in either, in both, not marked.
use mathlib.Core.Path.{◌≡◌}
use mathlib.Core.Logic.{◌⊎◌, inl, inr}
use mathlib.Core.List.{List}
use Prim.Native.Nat.{ℕ, ◌-◌, ◌<◌, min, max}
use native.Mathlib.Decide.{ℕ_discrete}
use native.Mathlib.Omega.{arith}
use lib.Bits.{bit_and, bit_or}
use lib.ListN.{get_or}
use Rattle.fuzzy.specs.Phrase.{has}
use Rattle.fuzzy.proofs.Literals.{has_lt, has_or, has_and}
use Rattle.rows.specs.Square.{square, Marked}
use Rattle.rows.specs.Pass.{Either, Both, Others}
use Rattle.rows.proofs.Shift.{full_has}
use Rattle.rows.proofs.Rows.{square_row, all_codes}
use Rattle.rows.proofs.Stage.{square_lt}

module _ (m o r : List ℕ) where
  -- rows that are joined are marked in either
  pub either_says : ((i : ℕ) → i < 64 → get_or r i 0 ≡ bit_or (get_or m i 0) (get_or o i 0)) → Either m o r
  either_says rows c l = (λ (k, e). at e (ℕ_discrete (square m c) 1), from)
    where
      -- the greater mark
      h : square r c ≡ max (square m c) (square o c)
      h =
          rw (square_row m c, square_row o c)
          (all_codes r (λ i b. max (has (get_or m i 0) b) (has (get_or o i 0) b)) (λ i li b lb. rw (rows i li) (has_or (get_or m i 0) (get_or o i 0) b)) c l)

      at : square r c ≡ 1 → Dec (square m c ≡ 1) → Marked m c ⊎ Marked o c
      at e (yes y) = inl (l, y)
      at e (no d) = inr (l, omega (arith, h, square_lt m c))

      from : Marked m c ⊎ Marked o c → Marked r c
      from (inl (k, e)) = (l, omega (arith, h, square_lt o c))
      from (inr (k, e)) = (l, omega (arith, h, square_lt m c))

  -- rows that are met are marked in both
  pub both_says : ((i : ℕ) → i < 64 → get_or r i 0 ≡ bit_and (get_or m i 0) (get_or o i 0)) → Both m o r
  both_says rows c l = (
    λ (k, e). ((l, omega (arith, h, square_lt m c)), (l, omega (arith, h, square_lt o c))),
    λ ((k, e), (k', e')). (l, omega (arith, h)),
  )
    where
      -- the lesser mark
      h : square r c ≡ min (square m c) (square o c)
      h =
          rw (square_row m c, square_row o c)
          (all_codes r (λ i b. min (has (get_or m i 0) b) (has (get_or o i 0) b)) (λ i li b lb. rw (rows i li) (has_and (get_or m i 0) (get_or o i 0) b)) c l)

-- full rows without m's are the others
pub others_says : (m r : List ℕ)
    → ((i : ℕ) → i < 64 → (b : ℕ) → b < 64 → has (get_or r i 0) b ≡ min (has 18446744073709551615 b) (1 - has (get_or m i 0) b)) → Others m r
others_says m r rows c l = (λ (k, e) (k', e'). omega (arith, h), from)
  where
    h : square r c ≡ 1 - square m c
    h =
        rw (square_row m c)
        (all_codes r (λ i b. 1 - has (get_or m i 0) b) (λ i li b lb. rw (rows i li b lb, full_has b lb) (omega (arith, has_lt (get_or m i 0) b))) c l)

    at : (square m c ≡ 1 → ⊥) → Dec (square m c ≡ 1) → square m c ≡ 0
    at d (yes e) = absurd (d e)
    at d (no n) = omega (arith, square_lt m c)

    from : ¬ Marked m c → Marked r c
    from d = (l, omega (arith, h, at (λ e. d (l, e)) (ℕ_discrete (square m c) 1)))
