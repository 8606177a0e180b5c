-- a rule's name by its number
pub mod Names
-- the lines that the two programs write, of numbers
pub mod OutputLines
