-- `Marks::others` meets its contract: each row is a full one without the given (`Joined.others_says`).
use Rattle.std.proofs.Common.{rules}
use Rattle.rows.proofs.Joined.{others_says}
use Rattle.rows.proofs.Marks.others.Goals as goal

pub returns : goal.returns
returns c = others_says _ _ (λ i l. let e = c.each.ensures i l in search rules)
