-- `first::or_of_all` meets its contract: the next entry and all before it are at most the or.
use mathlib.Core.Path.{◌≡◌}
use mathlib.Core.Logic.{◌⊎◌, inl, inr}
use Prim.Native.Nat.{ℕ, ◌≤◌, ◌<◌}
use native.Mathlib.Nat.{eq-or-lt_of_le, le_trans}
use native.Mathlib.Omega.{arith}
use Rattle.std.proofs.Common.{slice_index, bit_or}
use Rattle.std.proofs.lemmas.Nat.{le_or_l, le_or_r}
use Rattle.sheets.proofs.first.or_of_all.Goals as goal

pub loop-x-preserved : goal.loop-x-preserved
loop-x-preserved c = λ i l. at i (eq-or-lt_of_le {n = i} {m = c.loop-x.x-index} (omega arith))
  where
    at : (i : ℕ) → (i ≡ c.loop-x.x-index) ⊎ (i < c.loop-x.x-index)
        → slice_index c.args.list.now i ≤ bit_or c.loop-x.all (slice_index c.args.list.now c.loop-x.x-index)
    at i (inl e) = rw e (le_or_r c.loop-x.all (slice_index c.args.list.now c.loop-x.x-index))
    at i (inr l) = le_trans (c.loop-x.invariant i l) (le_or_l c.loop-x.all (slice_index c.args.list.now c.loop-x.x-index))
