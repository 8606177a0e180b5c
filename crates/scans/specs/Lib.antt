-- what the code gives; the holes; one turn of a scan
pub mod Fits
pub mod Holes
pub mod Turns
