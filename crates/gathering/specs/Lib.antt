-- the lines so far, and the arrays that hold them
pub mod Gathered
