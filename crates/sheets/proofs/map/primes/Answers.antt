-- `map::primes` meets its contract, by `Maps.primes_of`.
use Rattle.std.proofs.Common.{rules}
use Rattle.sheets.proofs.Maps.{primes_of}
use Rattle.sheets.proofs.map.primes.Goals as goal

pub returns : goal.returns
returns c = search (rules, primes_of)
