-- the flags of the states and events that have a move
pub mod Marking
-- the first of two moves for one state and event
pub mod Singling
