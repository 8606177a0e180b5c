-- what is ascending
pub mod Ascending
-- how many are kept
pub mod Counted
-- the two tests by what the loops find
pub mod Orderly
pub mod Sized
