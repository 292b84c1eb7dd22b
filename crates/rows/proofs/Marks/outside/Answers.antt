-- `Marks::outside` meets its contract: each row is one of the table without the marked codes (`SimpleOrFull.outside_rows`).
use Rattle.std.proofs.Common.{rules}
use Rattle.rows.proofs.SimpleOrFull.{table, outside_rows}
use Rattle.rows.proofs.Marks.outside.Goals as goal

pub returns : goal.returns
unfolding table
returns c = outside_rows _ _ (λ i l. let e = c.each.ensures i l in search rules)
