-- what is shown of a configuration that is handed in
pub mod Shown
-- the live numbers, gathered room by room
pub mod Gathering
-- the machine that stands in a room
pub mod Looking
-- one machine sought by its live number
pub mod Seeking
