-- `cell::below` meets its contract.
use mathlib.Core.Path.{refl, ◌∙◌}
use native.Mathlib.Omega.{arith}
use lib.ListN.{length-set}
use lib.Pow.{pow_mono}
use Rattle.rows.proofs.Pairs.{one_shifted}
use Rattle.sheets.proofs.Below.{told_none, told_same, pair_fits, told_more, under_more, under_all}
use Rattle.sheets.proofs.cell.below.Goals as goal
use Rattle.sheets.proofs.cell.below.Goals.{then-cell-pair-ne0, else-cell-pair-ne0}

pub loop-j-init : goal.loop-j-init
loop-j-init c L owned = told_none L c.loop-cell.cell

pub overflow_sub-fewer : goal.overflow_sub-fewer
overflow_sub-fewer c =
    let e = one_shifted c.loop-j.j c.loop-j-test.true in
    rw e (pair_fits c.loop-cell.cell c.loop-j.j c.loop-cell-test.true (rw e at c.if-cell-pair-ne0.true))

pub overflow_sub-fewer-then-cell-pair-ne0 : goal.overflow_sub-fewer-then-cell-pair-ne0
overflow_sub-fewer-then-cell-pair-ne0 c =
    let e = one_shifted c.loop-j.j c.loop-j-test.true in
    rw e (pair_fits c.loop-cell.cell c.loop-j.j c.loop-cell-test.true (rw e at c.if-cell-pair-ne0.true))

pub overflow_shr-points : goal.overflow_shr-points
overflow_shr-points c = rw (one_shifted c.loop-j.j c.loop-j-test.true) (omega (arith, pow_mono {i = c.loop-j.j} {j = 5} (omega (arith, c.loop-j-test.true))))

pub loop-j-preserved : goal.loop-j-preserved
loop-j-preserved c L owned =
    elim c.if-cell-pair-ne0.branch [
      | then-cell-pair-ne0 w ↦
          let e = one_shifted c.loop-j.j c.loop-j-test.true in
          rw (w.points-is, e)
          (told_more L c.loop-cell.cell c.loop-j.j c.loop-cell-test.true c.loop-j-test.true (rw e at w.if-cell-pair-ne0.true) c.args.own.now c.loop-cell.below owned
          (c.loop-cell.invariant.1 L owned) c.loop-j.points (c.loop-j.invariant L owned))
      | else-cell-pair-ne0 w ↦
          let e = one_shifted c.loop-j.j c.loop-j-test.true in
          rw w.points-is (told_same L c.loop-cell.cell c.loop-j.j c.loop-j.points (rw e at w.if-cell-pair-ne0.false) (c.loop-j.invariant L owned))
    ]

pub loop-cell-init : goal.loop-cell-init
loop-cell-init c = (refl, λ L owned P x l. absurd (omega arith))

pub loop-cell-preserved : goal.loop-cell-preserved
loop-cell-preserved c = (
  length-set c.loop-cell.below c.loop-cell.cell c.loop-j.points ∙ c.loop-cell.invariant.0,
  λ L owned. under_more L c.loop-cell.below c.loop-cell.cell c.loop-j.points c.loop-j.j c.loop-cell-test.true c.loop-cell.invariant.0 c.loop-j-test.false c.loop-j.auto.j-end
      (c.loop-j.invariant L owned) (c.loop-cell.invariant.1 L owned),
)

pub returns : goal.returns
returns c L owned = under_all L c.loop-cell.below c.loop-cell.cell c.loop-cell-test.false (c.loop-cell.invariant.1 L owned)
