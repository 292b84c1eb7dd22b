-- `Marks::close_up` meets its contract: each row is closed (`Rows.up_all`), each pass closes over one literal more (`up_step`), and closed over all
-- twelve the marks are those promised (`closed_up_lem`).
use Rattle.std.proofs.Common.{rules, arith, ◌≡◌}
use Rattle.rows.specs.Square.{square}
use Rattle.rows.proofs.Rows.{up_all}
use Rattle.rows.proofs.Stage.{up_step, closed_up_lem, marked_as, square_lt}
use Rattle.rows.proofs.Marks.close_up.Goals as goal

pub loop-k-init : goal.loop-k-init
loop-k-init c = up_all _ _ (λ i l. let e = c.each-marks.ensures i l in search rules)

pub loop-k-preserved : goal.loop-k-preserved
loop-k-preserved c = up_step (square c.args.self.now.rows) c.loop-k.k c.loop-k.invariant c.raise.ensures

pub returns : goal.returns
returns c x l =
    let m = c.args.self.now.rows in
    let all : c.loop-k.k ≡ 6 = omega arith in
    marked_as l (rw all at (c.loop-k.invariant x l)) (closed_up_lem (square m) (square_lt m) x l)
