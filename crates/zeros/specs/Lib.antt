-- a run of zeros, and the loop that looks for one
pub mod Zeros
-- a list with a count: what is read of it is written again where the unused places are zero
pub mod Packed
-- a loop that keeps the greatest number
pub mod Greatest
-- a test of each number of a run, by `all` of an iterator
pub mod Each
