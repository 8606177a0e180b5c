-- what is found in a text and stored of it, and what is judged
pub mod Found
-- the lines of each kind taken into the arrays
pub mod Taken
-- all arrays, by the lines that they hold
pub mod Lent
-- one line
pub mod Line
-- the lines from the first to the last
pub mod Lines
