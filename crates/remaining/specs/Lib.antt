-- what the functions are asked, and the rows that they leave
pub mod Remaining
-- the row of a machine, and the room after a change of it
pub mod Held
