-- The loop's invariant: after each turn i is at the next row that has all of the code's row, and what was found is what those before mark (`Met`).
use Rattle.rows.proofs.One.{Met}
use Rattle.rows.proofs.Marks.covers.Given as goal

abbrev pub invariant-loop : goal.invariant-loop
invariant-loop l = Met l.self.rows l.high l.found l.i l.counter
