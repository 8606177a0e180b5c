-- a text split at a byte; values with a '=' in them
pub mod Parts
pub mod Unequal
-- a line read byte by byte, and that this is what the forms say
pub mod Reads
pub mod Fields
pub mod Told
-- the places of a line in a text, and a form scanned over them
pub mod Lines
pub mod Scan
pub mod Found
