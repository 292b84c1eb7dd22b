-- `bits::without` meets its contract: what the first row does not share with the second is left, by `Rows.out_shared`.
use Rattle.rows.proofs.Rows.{out_shared}
use Rattle.rows.proofs.bits.without.Goals as goal

pub returns : goal.returns
returns c x l = out_shared c.args.row c.args.other x
