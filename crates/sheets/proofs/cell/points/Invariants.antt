-- The loop's invariant: the points agree with the digits so far.
use Rattle.std.proofs.Common.{◌≡◌, ℕ, ◌<◌}
use mathlib.Core.Logic.{◌↔◌}
use Rattle.fuzzy.specs.Phrase.{has}
use Rattle.sheets.specs.Cell.{Along}
use Rattle.sheets.proofs.cell.points.Given as goal

abbrev pub invariant-loop-j : goal.invariant-loop-j
invariant-loop-j l = (x : ℕ) → x < 64 → (has l.points x ≡ 1) ↔ Along l.j l.phrase x
