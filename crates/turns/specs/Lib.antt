-- the turn of a pending raise, by the tables and as the definitions have it
pub mod Turns
