-- a room after a change of its row and its values
pub mod Stores
-- what the rules are asked, and what they leave
pub mod Storing
