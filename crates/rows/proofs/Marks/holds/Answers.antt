-- `Marks::holds` meets its contract, by `One.held_says`.
use Rattle.rows.proofs.One.{held_says}
use Rattle.rows.proofs.Marks.holds.Goals as goal

pub returns : goal.returns
returns c = held_says c.args.self.now.rows c.args.code c.if-code-ge-CODES.false
