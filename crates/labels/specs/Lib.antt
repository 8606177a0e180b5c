-- a rule as a number
pub mod Labels
