-- `Marks::least` meets its contract: each row is raised (`Rows.above_all`), each pass raises the marks by one literal more (`raised_step`), and what is
-- left without them is the least (`least_says`).
use Rattle.std.proofs.Common.{rules, arith, ◌≡◌}
use Rattle.rows.specs.Square.{square}
use Rattle.rows.proofs.Rows.{above_all, without_all}
use Rattle.rows.proofs.Stage.{raised_step, least_says, square_lt}
use Rattle.rows.proofs.Marks.least.Goals as goal

pub loop-k-init : goal.loop-k-init
loop-k-init c = above_all _ _ (λ i l. let e = c.each-above.ensures i l in search rules)

pub loop-k-preserved : goal.loop-k-preserved
loop-k-preserved c = raised_step (square c.args.self.now.rows) c.loop-k.k c.loop-k.invariant c.raise_from.ensures

pub returns : goal.returns
returns c =
    let m = c.args.self.now.rows in
    let all : c.loop-k.k ≡ 6 = omega arith in
    least_says (square m) (square_lt m) (rw all at c.loop-k.invariant)
    (without_all _ _ _ (λ i l. let e = c.each.ensures i l in search rules))
