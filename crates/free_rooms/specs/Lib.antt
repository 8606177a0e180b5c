-- a free room in the flat lists: all its places are zero
pub mod FreeRooms
