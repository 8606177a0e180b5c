-- the test of unused places
pub mod Zeros
-- what is handed in, and the step of it
pub mod Handed
-- the start configuration is one
pub mod Start
