-- The loops' invariants: so many primes have been met against the walk.
use Rattle.std.proofs.Common.{◌≡◌, length}
use Rattle.sheets.proofs.Turns.{Passing}
use Rattle.sheets.proofs.cover.behind.Given as goal

abbrev pub invariant-loop-literals : goal.invariant-loop-literals
invariant-loop-literals l = (length l.own ≡ 64) × (length l.later ≡ 4096) × Passing l.fn.n.count l.codes l.literals 0 l.own l.later

abbrev pub invariant-loop-prime : goal.invariant-loop-prime
invariant-loop-prime l = (length l.own ≡ 64) × (length l.later ≡ 4096) × Passing l.fn.n.count l.codes l.literals l.prime-index l.own l.later
