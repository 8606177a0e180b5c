-- numbers; what is asked; what a row's stores make of an array; stores behind a list; counts and lengths; no lines; one more row, a state's flags, a statement's pairs
pub mod Words
pub mod Asked
pub mod Stored
pub mod Behind
pub mod Counts
pub mod NoLines
pub mod More
pub mod Flags
pub mod Pool
