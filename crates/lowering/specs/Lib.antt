-- what is asked of a program, what a row adds to the names, and the line of a fault
pub mod Lowering
-- a turn over a row of each table
pub mod Turns
