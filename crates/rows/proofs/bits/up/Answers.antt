-- `bits::up` meets its contract: it gives the row after six steps upwards, by `Shift.up_row_lem`.
use native.Mathlib.Omega.{arith}
use Rattle.rows.proofs.Shift.{up_row_lem}
use Rattle.rows.proofs.bits.up.Goals as goal

pub returns : goal.returns
returns c = up_row_lem 6 (omega arith) c.args.row
