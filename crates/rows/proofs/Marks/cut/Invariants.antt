-- The loop's invariant: the rows from the first that is cleared up to i are empty, and those before are as they were.
use Rattle.rows.proofs.LowCodes.{Cleared}
use Rattle.rows.proofs.Marks.cut.Given as goal

abbrev pub invariant-loop-i : goal.invariant-loop-i
invariant-loop-i l = Cleared l.initial.i l.initial.rows l.i l.rows
