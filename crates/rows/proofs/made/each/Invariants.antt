-- The loop's invariant: the rows before i are as the function gives them.
use Rattle.std.proofs.Common.{ℕ, ◌<◌, slice_index, length, ◌≡◌}
use Rattle.rows.proofs.made.each.Given as goal

abbrev pub invariant-loop-i : goal.invariant-loop-i
invariant-loop-i g l = (length l.rows ≡ 64) × ((j : ℕ) → j < l.i → goal.F-post g l.row j (slice_index l.rows j))
