-- the code's tables as a program of the definitions
pub mod Decode
-- laws of reading them
pub mod Numbered
pub mod Widths
pub mod Tables
-- the paper's session in tables
pub mod Examples
