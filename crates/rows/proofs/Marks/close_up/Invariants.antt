-- The loop's invariant: the marks are closed upwards over the literals below 6 + k.
use Rattle.std.proofs.Common.{◌≡◌, ℕ, ◌+◌, ◌<◌}
use Rattle.rows.specs.Square.{square}
use Rattle.rows.specs.Stage.{closed_up}
use Rattle.rows.proofs.Marks.close_up.Given as goal

abbrev pub invariant-loop-k : goal.invariant-loop-k
invariant-loop-k l = (c : ℕ) → c < 4096 → square l.marks.rows c ≡ closed_up (6 + l.k) (square l.self.rows) c
