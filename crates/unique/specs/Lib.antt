-- the forms of contract that many functions have
pub mod Forms
-- the two public steps
pub mod Step
-- the two public runs
pub mod Runs
-- what is shown of a configuration
pub mod Shown
-- the tests of what is handed in
pub mod Passes
-- tables that are worked out of a program, and the marks of what was named
pub mod Tables
-- the flat lists, by what they hold
pub mod Arrays
-- a row, a stack, a queue
pub mod Rows
-- the engine's functions
pub mod Acts
