-- `bits::above` meets its contract: it gives the row raised by each of its six literals, by `Shift.above_row_lem`.
use native.Mathlib.Omega.{arith}
use Rattle.rows.proofs.Shift.{above_row_lem}
use Rattle.rows.proofs.bits.above.Goals as goal

pub returns : goal.returns
returns c = above_row_lem 6 (omega arith) c.args.row
