-- `first::in_piece` meets its contract: no entry is above the or of all, and where that is below the limit the scan finds none.
use mathlib.Core.Path.{sym}
use native.Mathlib.Omega.{arith}
use Rattle.sheets.proofs.Found.{all_below_none}
use Rattle.sheets.proofs.first.in_piece.Goals as goal

pub returns-then-or_of_all-limit : goal.returns-then-or_of_all-limit
returns-then-or_of_all-limit c =
    sym (all_below_none c.args.limit c.args.list.now (λ i l. omega (arith, c.or_of_all.ensures i l, c.if-or_of_all-limit.true)))
