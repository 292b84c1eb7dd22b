-- `bits::down` meets its contract: it gives the row after six steps downwards, by `Shift.down_row_lem`.
use native.Mathlib.Omega.{arith}
use Rattle.rows.proofs.Shift.{down_row_lem}
use Rattle.rows.proofs.bits.down.Goals as goal

pub returns : goal.returns
returns c = down_row_lem 6 (omega arith) c.args.row
