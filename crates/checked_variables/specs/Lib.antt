-- what is asked of a room's values
pub mod Variables
-- laws of going through a kind's variables
pub mod Going
-- a room's values in the flat list
pub mod Room
