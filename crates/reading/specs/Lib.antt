-- all lines read
pub mod Whole
-- and so no text has too many moves and pairs
pub mod Bounded
