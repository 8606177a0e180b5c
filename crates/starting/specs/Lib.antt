-- what a program starts with
pub mod Started
-- the start configuration, laid into arrays of zeros
pub mod Laid
-- what a loaded text starts with
pub mod Loaded
