-- The loop's invariant: as many codes are left as there are turns to come, and writing them after those that are written gives what writing all gives.
use Rattle.std.proofs.Common.{◌≡◌, ◌+◌, length}
use Rattle.std.proofs.lemmas.List.Edits.{sets}
use Rattle.rows.specs.Read.{row_marks}
use Rattle.rows.proofs.reading.read_row.Given as goal

abbrev pub invariant-loop-next : goal.invariant-loop-next
invariant-loop-next l =
    (l.next + length (row_marks l.rest l.base) ≡ l.end)
    × (sets l.codes l.next (row_marks l.rest l.base) ≡ sets l.initial.codes l.at (row_marks l.row l.base))
