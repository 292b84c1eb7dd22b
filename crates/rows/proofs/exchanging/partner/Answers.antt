-- `exchanging::partner` meets its contract, by a test of all row numbers.
use Rattle.rows.proofs.Places.{partner_exchanged}
use Rattle.rows.proofs.exchanging.partner.Goals as goal

pub returns : goal.returns
returns c = partner_exchanged c.args.i c.requires
