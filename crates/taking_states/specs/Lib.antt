-- what the line of a state says; what the arrays hold
pub mod Lines
pub mod Held
