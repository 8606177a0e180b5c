-- what a line says, by its form and places
pub mod Told
