-- Laws over plain variables that the functions' proofs cite, and what follows from the promises.
--   Scan       what one turn of each scan does to what is left of it
--   Level      the codes of the literals that are at least 1, and at least 2, at a vector
--   Above      whether a phrase is above a sheet at a vector, read off one code
--   Told       what the checks answer where their tests hold and where they fail
--   Refused    the first refusal that applies, and what is known where none does
--   Found      what the scan for the first entry that is at least a limit says of the check that it serves
--   Pieces     where a list in two parts has its first entry that is at least a limit
--   Promise    what the calls answer is what they promise
--   Unique     any two answers that a promise allows are equal
--   Meaning    what the promises mean in the user's words
--   Maps       the passes give the within maps, and from a map the marks of its primes
--   Lists      those marks are the lists of the sheet, the join, the meet and the complement
--   Published  what a list call answers, from the checks and from what was read
--   Cells      a phrase with pairs is an implicant where some phrase is within each of its points
--   Below      the points that phrases with fewer pairs are within
--   Placed     a phrase's set of pairs, and its points
--   Walked     the walk over marks leaves the marks of the cover
--   Standing   where the walk stands before and after it meets a prime
--   Turns      the loops that meet the primes
--   Flags      flags written one after the other, and the buffer that they leave
--   Checks     what it means that one of the checks applies, and that none does
--   Given      what a list call gave, once it is done
--   Flagged    the phrases whose flag is 1 are the cover
--   Demands    the three demands, from the promises alone
pub mod Scan
pub mod Level
pub mod Above
pub mod Told
pub mod Refused
pub mod Found
pub mod Pieces
pub mod Promise
pub mod Unique
pub mod Meaning
pub mod Maps
pub mod Lists
pub mod Published
pub mod Cells
pub mod Below
pub mod Placed
pub mod Walked
pub mod Standing
pub mod Turns
pub mod Flags
pub mod Checks
pub mod Given
pub mod Flagged
pub mod Demands
