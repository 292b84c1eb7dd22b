-- The loop's invariant: writing the codes of the rows from i on after those that are written gives what writing all gives.
use Rattle.std.proofs.Common.{◌≡◌, ◌+◌, length}
use Rattle.std.proofs.lemmas.List.Edits.{sets}
use Rattle.rows.proofs.Written.{left_from}
use Rattle.rows.specs.Read.{marks_of}
use Rattle.rows.proofs.Marks.read.Given as goal

abbrev pub invariant-loop-i : goal.invariant-loop-i
invariant-loop-i l =
    (l.at + length (left_from l.self.rows l.i) ≡ length (marks_of l.self.rows 4096))
    × (sets l.codes l.at (left_from l.self.rows l.i) ≡ sets l.initial.codes 0 (marks_of l.self.rows 4096))
