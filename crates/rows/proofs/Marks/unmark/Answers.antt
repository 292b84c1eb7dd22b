-- `Marks::unmark` meets its contract, by `One.removed_says`.
use Rattle.std.proofs.Common.{rules}
use Rattle.rows.proofs.One.{removed_says}
use Rattle.rows.proofs.Marks.unmark.Goals as goal

pub returns-then-code-lt-CODES : goal.returns-then-code-lt-CODES
returns-then-code-lt-CODES c = search (rules, removed_says)
