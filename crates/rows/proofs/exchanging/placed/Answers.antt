-- `exchanging::placed` meets its contract: a turn brings four rows more to their new places, by `Places.four_placed`.
use Rattle.std.proofs.Common.{arith, rules}
use Rattle.rows.proofs.Places.{three_under, four_placed}
use Rattle.rows.proofs.exchanging.placed.Goals as goal

pub overflow_sub-rows : goal.overflow_sub-rows
overflow_sub-rows c = omega (arith, three_under c.loop-four.four c.loop-four-test.true)

pub overflow_sub-rows-in-loop-four : goal.overflow_sub-rows-in-loop-four
overflow_sub-rows-in-loop-four c = omega (arith, three_under c.loop-four.four c.loop-four-test.true)

pub overflow_sub-rows-in-loop-four-2 : goal.overflow_sub-rows-in-loop-four-2
overflow_sub-rows-in-loop-four-2 c = omega (arith, three_under c.loop-four.four c.loop-four-test.true)

pub loop-four-preserved : goal.loop-four-preserved
loop-four-preserved c =
    let l = c.loop-four in
    let p = c.partner-from in
    (search rules, four_placed c.args.marks.now.rows l.rows l.four p.result l.invariant.0 c.loop-four-test.true p.ensures.1 l.invariant.1)
