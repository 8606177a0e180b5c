-- a program, to be read in this order
pub mod Sizes
pub mod Program
pub mod Trees
pub mod Statements
