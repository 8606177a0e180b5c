-- the loop that clears; a room that becomes free, as the definitions have it
pub mod Deleting
