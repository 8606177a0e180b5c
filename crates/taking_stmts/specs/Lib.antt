-- what a line in each form says; what the arrays hold
pub mod Lines
pub mod Held
