-- a room's queue in the flat lists, and what is done to it
pub mod Queues
-- as the definitions have it
pub mod Meaning
