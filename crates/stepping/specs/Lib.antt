-- what is handed in, laid into the flat arrays
pub mod Stepping
-- the run of one choice
pub mod OneChoice
