-- `Marks::covers` meets its contract, by `One.covered_says`.
use Rattle.std.proofs.Common.{◌/◌, arith}
use Rattle.rows.proofs.One.{met_none, met_row, met_all, met_more, covered_says}
use Rattle.rows.proofs.Marks.covers.Goals as goal

pub loop-init : goal.loop-init
loop-init c = met_none c.args.self.now.rows (c.args.code / 64) (omega arith)

pub offset_bounds-self-i : goal.offset_bounds-self-i
offset_bounds-self-i c = omega (arith, met_row c.loop.invariant c.loop-test.true)

pub bounds-self-i : goal.bounds-self-i
bounds-self-i c = met_row c.loop.invariant c.loop-test.true

pub overflow_add-i : goal.overflow_add-i
overflow_add-i c = omega (arith, met_row c.loop.invariant c.loop-test.true)

pub loop-preserved : goal.loop-preserved
loop-preserved c = met_more c.loop.invariant (met_row c.loop.invariant c.loop-test.true)

pub returns-after-loop : goal.returns-after-loop
returns-after-loop c =
    let l = c.loop in
    let a = c.args in
    covered_says a.self.now.rows a.code l.found l.i c.up.result (met_all l.invariant c.loop-test.false) c.up.type_inv l.invariant.gathered c.up.ensures
