-- Marks over the codes of six variables, and what each pass makes of them.
--   Square   whether a code is marked
--   Stage    marks moved by one literal, and closed over several
--   Pass     what the passes promise
--   Read     the marked codes as a list
pub mod Square
pub mod Stage
pub mod Pass
pub mod Read
