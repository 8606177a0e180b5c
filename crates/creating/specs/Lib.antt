-- the room of a new machine
pub mod Newborn
-- the creation, as the definitions have it
pub mod Creating
-- what is asked, and that what is left is the creation
pub mod Asked
