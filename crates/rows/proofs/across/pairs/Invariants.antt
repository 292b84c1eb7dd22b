-- The loops' invariants: the pairs of rows before the next one are as the pass gives them, and the others as they were.
use Rattle.std.proofs.Common.{◌+◌, ◌*◌, ◌^◌}
use Rattle.rows.proofs.Pairs.{Done}
use Rattle.rows.proofs.across.pairs.Given as goal

abbrev pub invariant-loop-low : goal.invariant-loop-low
invariant-loop-low g l = Done (goal.F-post g l.pass) l.k l.fn.marks.rows (l.high * 2 * 2 ^ l.k + l.low) l.marks.rows

abbrev pub invariant-loop-high : goal.invariant-loop-high
invariant-loop-high g l = Done (goal.F-post g l.pass) l.k l.fn.marks.rows (l.high * 2 * 2 ^ l.k) l.marks.rows
