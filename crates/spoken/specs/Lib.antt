-- what a line says, by its form and the places of its values; what a function that takes a line answers; the laws of the functions here
pub mod Spoken
pub mod Took
pub mod Counted
