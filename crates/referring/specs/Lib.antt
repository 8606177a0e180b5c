-- what a state defers is there
pub mod Deferring
