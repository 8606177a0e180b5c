-- what the exported functions answer
pub mod Exported
-- what the functions that read a configuration answer
pub mod Read
