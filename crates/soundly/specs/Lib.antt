-- what the tests of a program tell together
pub mod Soundly
