-- The loop's invariant: the codes are marked that the given marks have without one of the literals below 6 + k.
use Rattle.std.proofs.Common.{◌≡◌, ℕ, ◌+◌, ◌<◌}
use Rattle.rows.specs.Square.{square}
use Rattle.rows.specs.Stage.{raised}
use Rattle.rows.proofs.Marks.least.Given as goal

abbrev pub invariant-loop-k : goal.invariant-loop-k
invariant-loop-k l = (c : ℕ) → c < 4096 → square l.above.rows c ≡ raised (6 + l.k) (square l.self.rows) c
