-- what is written into a buffer, and the machines left
pub mod Written
