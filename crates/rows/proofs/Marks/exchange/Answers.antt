-- `Marks::exchange` meets its contract: the rows change places, and so do the bits of each, by `Places.exchange_done`.
use Rattle.std.proofs.Common.{rules}
use Rattle.fuzzy.proofs.Within.{exchange, exchange_lt}
use Rattle.rows.proofs.Places.{exchange_done}
use Rattle.rows.proofs.Marks.exchange.Goals as goal

pub returns : goal.returns
returns c =
    exchange_done c.args.self.now.rows c.placed.result.rows
    (λ i b l lb. let p = c.placed.ensures i l in let e = c.each.ensures (exchange 3 i) (exchange_lt 3 i) in search rules)
