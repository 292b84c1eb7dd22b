-- The loop's invariant: the total is the number of the marked codes in the rows before this one.
use Rattle.std.proofs.Common.{◌≡◌, ◌*◌, length}
use Rattle.rows.specs.Read.{marks_of}
use Rattle.rows.proofs.Marks.count.Given as goal

abbrev pub invariant-loop-row : goal.invariant-loop-row
invariant-loop-row l = l.total ≡ length (marks_of l.self.rows (l.row-index * 64))
