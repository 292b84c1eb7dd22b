-- `across::raise_from` meets its contract: each row that has the literal has the given marks' row without it too (`Pairs.raise_pairs`).
use Rattle.std.proofs.Common.{rules}
use Rattle.rows.proofs.Pairs.{raise_pairs}
use Rattle.rows.proofs.across.raise_from.Goals as goal

pub returns : goal.returns
returns c = raise_pairs c.args.k c.requires c.args.marks.now.rows c.args.from.now.rows _ (λ i l z. let e = c.pairs.ensures i l z in search rules)
