-- what a line in the form says is well said; what reading hands on fits; what is loaded is sound
pub mod WellSaid
pub mod Fitting
pub mod Loaded
