-- the loop that copies
pub mod Copies
