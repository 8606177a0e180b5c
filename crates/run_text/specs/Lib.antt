-- the run of a loaded text
pub mod RunText
-- what the calls leave
pub mod Calls
