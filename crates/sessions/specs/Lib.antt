-- the name of a file
pub mod FileName
