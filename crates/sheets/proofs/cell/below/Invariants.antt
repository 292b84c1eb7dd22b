-- The loops' invariants: for the sets so far the points with phrases of other pairs within them, and for the next set those that its first pairs tell.
use Rattle.std.proofs.Common.{◌≡◌, ℕ, length}
use mathlib.Core.List.{List}
use Rattle.sheets.specs.Cell.{Owned}
use Rattle.sheets.proofs.Below.{UnderFirst, Told}
use Rattle.sheets.proofs.cell.below.Given as goal

abbrev pub invariant-loop-cell : goal.invariant-loop-cell
invariant-loop-cell l = (length l.below ≡ 64) × ((L : List ℕ) → Owned L l.own → UnderFirst L l.below l.cell)

abbrev pub invariant-loop-j : goal.invariant-loop-j
invariant-loop-j l = (L : List ℕ) → Owned L l.own → Told L l.cell l.j l.points
