-- Where a phrase is no implicant, `lowest` is the least number of a vector of scale 2 at which it is above, and it is below 3 ^ n.
-- `first` gives the least number that passes the test, and the test says whether the phrase is above (`Decide.above_says`, `Decide.under_says`).
use mathlib.Core.Path.{◌≡◌, sym, ◌∙◌}
use mathlib.Core.Bool.{false, false≢true}
use Prim.Native.Nat.{ℕ, ◌^◌, ◌≤◌, ◌<◌}
use lib.Arith.{lt_of_le-ne}
use Rattle.fuzzy.specs.Grade.{phrase_value}
use Rattle.fuzzy.specs.Function.{Fn, OfSheet}
use Rattle.fuzzy.specs.Implicant.{Implicant}
use Rattle.fuzzy.specs.Vector.{vector, above, lowest, implicant?}
use Rattle.fuzzy.proofs.Search.{eq-eqb, first_le, first_passes, first_least}
use Rattle.fuzzy.proofs.Decide.{above_says, under_says, refused}

module _ (n : ℕ) (f : Fn) (p : ℕ) where
  -- below the lowest vector the phrase is nowhere above
  pub lowest_least : (k : ℕ) → k < lowest n f p → phrase_value 2 n p (vector n k) ≤ f 2 (vector n k)
  unfolding lowest
  lowest_least k l = (under_says n f p k).0 (first_least (above n f p) (3 ^ n) k l)

  -- where the decision is no, the lowest vector is one of the 3 ^ n, and the phrase is above there
  pub lowest_above : implicant? n f p ≡ false
      → (lowest n f p < 3 ^ n) × (f 2 (vector n (lowest n f p)) < phrase_value 2 n p (vector n (lowest n f p)))
  unfolding lowest implicant?
  lowest_above e = (bounded, (above_says n f p (lowest n f p)).0 (first_passes (above n f p) (3 ^ n) bounded))
    where
      bounded : lowest n f p < 3 ^ n
      bounded = lt_of_le-ne (first_le (above n f p) (3 ^ n)) (λ all. false≢true (sym e ∙ eq-eqb (lowest n f p) (3 ^ n) all))

  -- so it is, of a phrase that is no implicant
  pub lowest_found : OfSheet n f → ¬ Implicant n f p
      → (lowest n f p < 3 ^ n) × (f 2 (vector n (lowest n f p)) < phrase_value 2 n p (vector n (lowest n f p)))
      × ((k : ℕ) → k < lowest n f p → phrase_value 2 n p (vector n k) ≤ f 2 (vector n k))
  lowest_found o d = let (bounded, there) = lowest_above ((refused n f o p).1 d) in (bounded, there, lowest_least)
