-- `exchanging::row` meets its contract, by the law on three exchanges after each other.
use Rattle.rows.proofs.Places.{row_exchanged_lem}
use Rattle.rows.proofs.exchanging.row.Goals as goal

pub returns : goal.returns
returns c = row_exchanged_lem c.args.row
