-- what a line in each form says; what the array holds
pub mod Lines
-- a `val`, cut
pub mod Vals
pub mod Held
