-- the live numbers of all rooms: what it is that they are distinct
pub mod Distinct
