-- laws of the first faulty line
pub mod Faults
-- the first number that does not pass a test
pub mod First
-- the lines of a program, of which only some tables are asked
pub mod Asking
-- a check of every element
pub mod Each
-- the program that lent arrays read as
pub mod Read
-- a faulty line as an answer; what a search finds
pub mod Lines
-- every number up to n passes a test
pub mod Upward
-- what a method of std finds that goes through numbers
pub mod Ranges
