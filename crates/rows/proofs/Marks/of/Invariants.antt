-- The loop's invariant: the codes of the sheet before the index are marked.
use Rattle.std.proofs.Common.{◌≡◌, length, take}
use Rattle.rows.specs.Pass.{OfSheet}
use Rattle.rows.proofs.Marks.of.Given as goal

abbrev pub invariant-loop-code : goal.invariant-loop-code
invariant-loop-code l = (length l.rows ≡ 64) × OfSheet (take l.code-index l.sheet) l.rows
