-- the lines of many numbers
pub mod Rows
-- a loop that writes one line a turn
pub mod Telling
-- the two loops
pub mod Turns
