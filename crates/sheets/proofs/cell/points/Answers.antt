-- `cell::points` meets its contract.
use Rattle.sheets.proofs.Placed.{along_none, along_more}
use Rattle.sheets.proofs.cell.points.Goals as goal

pub loop-j-init : goal.loop-j-init
loop-j-init c = along_none c.args.phrase

pub loop-j-preserved : goal.loop-j-preserved
loop-j-preserved c x l =
    along_more c.args.phrase c.loop-j.j c.loop-j.points c.side-points.result x c.loop-j-test.true l (c.loop-j.invariant x l) (c.side-points.ensures x l)
