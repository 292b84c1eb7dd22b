-- `reading::read_row` meets its contract: a turn writes the row's lowest code and leaves out that one, by the laws of `LowestBit`.
use Rattle.std.proofs.Common.{rules}
use Rattle.std.proofs.Common.{arith, refl}
use Rattle.std.proofs.lemmas.List.{nil_from_length}
use Rattle.rows.proofs.Selected.{row_ones}
use Rattle.rows.proofs.LowestBit.{row_some, write_turn, write_less}
use Rattle.rows.proofs.reading.read_row.Goals as goal

pub loop-next-init : goal.loop-next-init
loop-next-init c = (omega (arith, row_ones c.args.row c.args.base c.ranges.row.fits), refl)

pub bounds-codes-next : goal.bounds-codes-next
bounds-codes-next c = search (rules, row_ones)

pub overflow_sub-rest : goal.overflow_sub-rest
overflow_sub-rest c = search (rules, row_some)

pub loop-next-preserved : goal.loop-next-preserved
loop-next-preserved c = search (rules, row_some, write_less, write_turn)

pub returns : goal.returns
returns c = search (rules, nil_from_length, row_ones)
