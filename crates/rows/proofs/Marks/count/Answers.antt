-- `Marks::count` meets its contract: a row marks as many codes as it has ones, by `Selected.count_more`.
use Rattle.std.proofs.Common.{rules}
use Rattle.rows.proofs.Selected.{count_more, count_le, count_none}
use Rattle.rows.proofs.Marks.count.Goals as goal

pub loop-row-init : goal.loop-row-init
loop-row-init c = count_none c.args.self.now.rows

pub overflow_add-total : goal.overflow_add-total
overflow_add-total c = search (rules, count_more, count_le)

pub loop-row-preserved : goal.loop-row-preserved
loop-row-preserved c = search (rules, count_more)
