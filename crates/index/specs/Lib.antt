-- what the two tables hold
pub mod Index
-- laws of making them
pub mod Saying
pub mod Placing
