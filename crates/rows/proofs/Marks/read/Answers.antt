-- `Marks::read` meets its contract: the rows' codes are written row by row, by the laws of `Written`.
use Rattle.std.proofs.Common.{rules}
use Rattle.rows.proofs.Written.{left_all, left_none, left_length, write_row, read_fits, read_not}
use Rattle.rows.proofs.Marks.read.Goals as goal

pub returns-then-codes-total : goal.returns-then-codes-total
returns-then-codes-total c = search (rules, read_not)

pub loop-i-init : goal.loop-i-init
loop-i-init c = search (rules, left_all)

pub read_row-at-requires-clause-room : goal.read_row-at-requires-clause-room
read_row-at-requires-clause-room c = search (rules, left_length)

pub loop-i-preserved : goal.loop-i-preserved
loop-i-preserved c = search (rules, left_length, write_row)

pub returns : goal.returns
returns c = search (rules, left_none, read_fits)
