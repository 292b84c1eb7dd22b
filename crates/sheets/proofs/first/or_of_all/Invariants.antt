-- The loop's invariant: no entry so far is above the or of those so far.
use Rattle.std.proofs.Common.{ℕ, ◌<◌, ◌≤◌, slice_index}
use Rattle.sheets.proofs.first.or_of_all.Given as goal

abbrev pub invariant-loop-x : goal.invariant-loop-x
invariant-loop-x l = (i : ℕ) → i < l.x-index → slice_index l.list i ≤ l.all
