-- what the two programs write
pub mod Lines
pub mod Programs
-- laws of it: digits, refusals, lengths, the lines of the first choices
pub mod Numerals
pub mod Refusals
pub mod Lengths
pub mod Steps
-- and that it is what the public functions give
pub mod Public
-- document 01's sessions, from the bytes read to the bytes written
pub mod Sessions
