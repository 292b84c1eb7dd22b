-- `Marks::either` meets its contract: each row is the two joined (`Joined.either_says`).
use Rattle.std.proofs.Common.{rules}
use Rattle.rows.proofs.Joined.{either_says}
use Rattle.rows.proofs.Marks.either.Goals as goal

pub returns : goal.returns
returns c = either_says _ _ _ (λ i l. let e = c.each.ensures i l in search rules)
