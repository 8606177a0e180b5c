-- a word of a line, and its laws
pub mod Words
