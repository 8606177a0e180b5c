-- what the functions on a room's stack are asked and leave, and how the top frame reads
pub mod Stacks
-- that they leave it
pub mod Changes
