-- what a machine's head names is there
pub mod Heads
-- a put to the queue of a machine that stands in a room
pub mod Waiting
-- the send, as the definitions have it
pub mod Sending
-- what the functions are asked, and that what they leave is the send
pub mod Asked
