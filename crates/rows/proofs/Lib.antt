-- Laws over plain variables that the functions' proofs cite.
--   Stage          marks moved literal by literal, closed over all twelve
--   Shift          moving one row's marks by shifts and masks
--   Rows           passes over the rows, each by itself, as passes over the codes
--   Pairs          passes from row to row, as passes over the codes
--   Joined         marks joined, and turned over
--   Places         digits 0 and 3 exchanged, in the rows and in the bits
--   Marking        setting a code's bit marks the code and no other
--   SimpleOrFull   the table of the simple or full codes is right
--   LowCodes       the codes of n variables are in the first rows
--   Selected       the marked codes are those of the rows, one row after the other
--   LowestBit      the first code that a row marks is that of its lowest one
--   Written        writing the marked codes row by row
--   One            one code among the marks: taken out, looked up, and covered by another
pub mod Stage
pub mod Shift
pub mod Rows
pub mod Pairs
pub mod Joined
pub mod Places
pub mod Marking
pub mod SimpleOrFull
pub mod LowCodes
pub mod Selected
pub mod LowestBit
pub mod Written
pub mod One
