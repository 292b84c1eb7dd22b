-- `Marks::cut` meets its contract, by `LowCodes.cut_rows`.
use Rattle.std.proofs.Common.{◌^◌, rules}
use Rattle.rows.proofs.LowCodes.{cut_rows}
use Rattle.rows.proofs.Marks.cut.Goals as goal

pub returns : goal.returns
returns c =
    let l = c.loop-i in
    let a = c.args in
    let e = c.row_count-i in
    cut_rows a.self.now.rows (4 ^ a.n) c.first_row.result e.result (search rules) c.first_row.ensures e.ensures l.i l.rows c.loop-i-test.false l.invariant
