-- The loop's invariant: the first i codes have their flags, and the rest of the buffer is as it came.
use Rattle.sheets.specs.Walk.{Flagged}
use Rattle.sheets.proofs.listing.flag.Given as goal

abbrev pub invariant-loop-i : goal.invariant-loop-i
invariant-loop-i l = Flagged l.kept.rows l.codes l.i l.initial.flags l.flags
