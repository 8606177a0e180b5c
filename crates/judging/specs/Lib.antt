-- the passes in the code's order
pub mod Judging
