-- What the calls promise, in document 01's terms.
--   Answer      a number and a detail, and what stands beside them; the first refusal of several
--   Told        what a call's result tells in these terms
--   Refusal     each refusal and its detail; what each call refuses, in order
--   Value       the answer of `value`, and its promise
--   Implicant   the answer of `implicant`, and its promise
--   Maps        within maps over six variables, and the marks of the primes that they give
--   Listing     the answers of `list`, `join`, `meet` and `complement`, their buffers, and their promises
--   Walk        the walk over marks that `list` takes to its cover
--   Cell        phrases by their set of pairs, and the points that they cover
pub mod Answer
pub mod Told
pub mod Refusal
pub mod Value
pub mod Implicant
pub mod Maps
pub mod Listing
pub mod Walk
pub mod Cell
