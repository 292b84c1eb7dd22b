-- `across::pairs` meets its contract: each turn gives one pair more (`Pairs.turn_done`), and past the last block all are done (`Pairs.all_done`).
use Rattle.std.proofs.Common.{arith}
use Rattle.rows.proofs.Pairs.{one_shifted, turn_done, block_done, all_done}
use Rattle.rows.proofs.across.pairs.Goals as goal

pub loop-low-preserved : goal.loop-low-preserved
loop-low-preserved g c =
    let a = c.args in
    let l = c.loop-low in
    let p = c.pass-without in
    turn_done (goal.F-post g a.pass) a.k c.requires.few a.marks.now.rows _ c.loop-high.high l.low (one_shifted a.k c.requires.few)
    c.loop-high-test.true c.loop-low-test.true l.marks.rows p.result.0 p.result.1 l.invariant p.ensures

pub loop-high-preserved : goal.loop-high-preserved
loop-high-preserved g c =
    let a = c.args in
    let l = c.loop-low in
    block_done (goal.F-post g a.pass) a.k c.requires.few a.marks.now.rows c.loop-high.high l.low l.marks.rows
    (omega (arith, one_shifted a.k c.requires.few, c.loop-low-test.false, l.auto.low-end)) l.invariant

pub returns : goal.returns
returns g c =
    let a = c.args in
    let l = c.loop-high in
    all_done (goal.F-post g a.pass) a.k c.requires.few a.marks.now.rows l.high l.marks.rows (omega (arith, c.loop-high-test.false)) l.invariant
