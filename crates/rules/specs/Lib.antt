-- what a machine does next, what it does to the configuration: the step
pub mod Act
pub mod Step
-- document 002's rules as a relation, and that the step is it
pub mod Rules
pub mod Match
-- 13, 19 and 20 in the document's words
pub mod Occasions
