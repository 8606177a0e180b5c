-- what a run is asked and leaves, and its loop
pub mod Looping
