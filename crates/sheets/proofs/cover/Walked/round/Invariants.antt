-- The loop's invariant: the primes with so many literals have been met behind what is left of the codes.
use Rattle.sheets.proofs.Turns.{Upto}
use Rattle.sheets.proofs.cover.Walked.round.Given as goal

abbrev pub invariant-loop-prime : goal.invariant-loop-prime
invariant-loop-prime l = Upto l.initial.self.left.rows l.initial.self.kept l.later l.codes l.literals l.prime-iterator.iter.rest.now l.self.left.rows l.self.kept
