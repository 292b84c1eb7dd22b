-- What is true of every sheet, from the ground up.
--   Cases      the known sheets of document 01, and further ones, computed
--   Search     what the searches and choices give
--   Order      lists in order, by index and by membership
--   Digits     a number and its digits determine each other
--   Literals   the literals of a code: how many there are, and that they determine it
--   Subsumes   having all literals is an order on phrases, and is decided
--   Sheet      a sheet's value is the least bound of its phrases' values
--   Reach      a phrase is at least t exactly when the code of the literals that are at least t subsumes it
--   Scale      the verdict is the same on every scale from 2
--   Decide     the search over 3 ^ n vectors gives that verdict
--   Lowest     where the verdict is no, the lowest vector that shows it
--   Prime      prime, losing no literal and `prime?` are the same
--   List       the list is exactly the primes, rising, and keeps the value
--   Walk       the walk meets every phrase once, in document 01's order
--   Cover      the cover keeps the value and needs each of its phrases
--   Within     which codes have a phrase of a join, a meet or a complement within them
--   Closure    join, meet and complement of sheets are sheets
--   Verdict    the search gives the verdict for these too
--   Lattice    the laws of join, meet and complement
--   Constant   the constants as bounds, and when a sheet joined with its complement is the constant 1
--   Fast       simple and full codes, and splitting: what makes the implicant question fast
--   Wider      a sheet over more variables keeps its value and its primes
-- Cases comes first so that a wrong definition is first refused by a known sheet that comes out wrong.
pub mod Cases
pub mod Search
pub mod Order
pub mod Digits
pub mod Literals
pub mod Subsumes
pub mod Sheet
pub mod Reach
pub mod Scale
pub mod Decide
pub mod Lowest
pub mod Prime
pub mod List
pub mod Walk
pub mod Cover
pub mod Within
pub mod Closure
pub mod Verdict
pub mod Lattice
pub mod Constant
pub mod Fast
pub mod Wider
