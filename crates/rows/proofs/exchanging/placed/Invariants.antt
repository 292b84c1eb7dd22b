-- The loop's invariant: the rows of the fours before this one are in their new places.
use Rattle.std.proofs.Common.{◌*◌, length, ◌≡◌}
use Rattle.rows.proofs.Places.{Placed}
use Rattle.rows.proofs.exchanging.placed.Given as goal

abbrev pub invariant-loop-four : goal.invariant-loop-four
invariant-loop-four l = (length l.rows ≡ 64) × Placed l.marks.rows l.rows (4 * l.four)
