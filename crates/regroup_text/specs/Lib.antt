-- the regrouping of a loaded text
pub mod RegroupText
-- what the calls leave
pub mod Calls
