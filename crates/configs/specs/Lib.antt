-- how the code's configuration reads, and how it is written
pub mod Decode
pub mod Encode
-- what is written in reverse
pub mod Reversed
-- the engine's form, one flat list for all rooms each
pub mod Flat
