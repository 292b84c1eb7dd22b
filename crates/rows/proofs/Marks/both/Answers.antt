-- `Marks::both` meets its contract: each row is what the two share (`Joined.both_says`).
use Rattle.std.proofs.Common.{rules}
use Rattle.rows.proofs.Joined.{both_says}
use Rattle.rows.proofs.Marks.both.Goals as goal

pub returns : goal.returns
returns c = both_says _ _ _ (λ i l. let e = c.each.ensures i l in search rules)
