-- The loop's invariant: the marks are closed downwards over the literals below 6 + k.
use Rattle.std.proofs.Common.{◌≡◌, ℕ, ◌+◌, ◌<◌}
use Rattle.rows.specs.Square.{square}
use Rattle.rows.specs.Stage.{closed_down}
use Rattle.rows.proofs.Marks.close_down.Given as goal

abbrev pub invariant-loop-k : goal.invariant-loop-k
invariant-loop-k l = (c : ℕ) → c < 4096 → square l.marks.rows c ≡ closed_down (6 + l.k) (square l.self.rows) c
