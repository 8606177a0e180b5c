-- what a lent buffer holds when bytes are written into it
pub mod Wrote
