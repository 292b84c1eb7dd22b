-- `Walked::meet` meets its contract: a prime with pairs is struck where its points are covered, any other is kept.
use mathlib.Core.Logic.{inl, inr}
use Rattle.std.proofs.Common.{rules}
use Rattle.sheets.proofs.Standing.{meets_struck, meets_kept}
use Rattle.sheets.proofs.cover.Walked.meet.Goals as goal
use Rattle.sheets.proofs.cover.Walked.meet.Goals.{else-cell-ne0-via-then-cell-ne0+else-others-points, else-cell-ne0-via-else-cell-ne0}

pub returns-then-others-points : goal.returns-then-others-points
returns-then-others-points c =
    meets_struck c.args.self.now.left.rows c.args.self.now.kept c.args.later.now c.args.prime c.pairs-cell.result c.points-points.result c.pairs-cell.ensures.set
    c.points-points.type_inv c.points-points.ensures _ c.if-cell-ne0.true c.if-others-points.true c.unmark.ensures

pub returns-else-cell-ne0 : goal.returns-else-cell-ne0
returns-else-cell-ne0 c =
    meets_kept c.args.self.now.left.rows c.args.self.now.kept c.args.later.now c.args.prime c.pairs-cell.result c.points-points.result c.pairs-cell.ensures.set
    c.points-points.type_inv c.points-points.ensures (search rules)
    (elim c.else-cell-ne0.branch [
      | else-cell-ne0-via-then-cell-ne0+else-others-points w ↦ inr w.if-others-points.false
      | else-cell-ne0-via-else-cell-ne0 w ↦ inl w.if-cell-ne0.false
    ])
