-- what the loader hands out: a refusal, or a program with its choices as numbers
pub mod HandedOut
-- what the calls of the loader and of the start leave
pub mod Called
-- what a text starts with
pub mod Starts
