-- `across::lower` meets its contract: each row that lacks the literal has the row with it too (`Pairs.lower_pairs`).
use Rattle.std.proofs.Common.{rules}
use Rattle.rows.proofs.Pairs.{lower_pairs}
use Rattle.rows.proofs.across.lower.Goals as goal

pub returns : goal.returns
returns c = lower_pairs c.args.k c.requires c.args.marks.now.rows c.args.marks.now.rows _ (λ i l z. let e = c.pairs.ensures i l z in search rules)
