-- What a sheet means, in document 01's order and terms.
--   Phrase      codes, digits, literals; when one phrase subsumes another
--   Grade       grades and scales; the value of a phrase and of a sheet
--   Function    sheets and their larger, smaller and complement value, as functions; when two are equal
--   Implicant   implicant and prime, over every scale
--   Vector      vectors of scale 2 by number; the lowest at which a phrase is above; the decisions
--   Primes      the list; join, meet and complement of sheets
--   Cover       the walk, the cover and its flags
pub mod Phrase
pub mod Grade
pub mod Function
pub mod Implicant
pub mod Vector
pub mod Primes
pub mod Cover
