-- The loop's invariant: the primes with so many literals or more have been met.
use lib.ListN.{length}
use Rattle.sheets.specs.Walk.{Rounds}
use Rattle.sheets.proofs.cover.walk.Given as goal

abbrev pub invariant-loop-literals : goal.invariant-loop-literals
invariant-loop-literals l = Rounds l.fn.n.count l.primes.rows l.codes (length l.codes) l.literals l.walk.left.rows l.walk.kept
