-- numbers named, and named again
pub mod Doubling
