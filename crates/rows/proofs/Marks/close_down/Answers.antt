-- `Marks::close_down` meets its contract: each row is closed (`Rows.down_all`), each pass closes over one literal more (`down_step`), and closed over all
-- twelve the marks are those promised (`closed_down_lem`).
use Rattle.std.proofs.Common.{rules, arith, ◌≡◌}
use Rattle.rows.specs.Square.{square}
use Rattle.rows.proofs.Rows.{down_all}
use Rattle.rows.proofs.Stage.{down_step, closed_down_lem, marked_as, square_lt}
use Rattle.rows.proofs.Marks.close_down.Goals as goal

pub loop-k-init : goal.loop-k-init
loop-k-init c = down_all _ _ (λ i l. let e = c.each-marks.ensures i l in search rules)

pub loop-k-preserved : goal.loop-k-preserved
loop-k-preserved c = down_step (square c.args.self.now.rows) c.loop-k.k c.loop-k-test.true c.loop-k.invariant c.lower.ensures

pub returns : goal.returns
returns c x l =
    let m = c.args.self.now.rows in
    let all : c.loop-k.k ≡ 6 = omega arith in
    marked_as l (rw all at (c.loop-k.invariant x l)) (closed_down_lem (square m) (square_lt m) x l)
