-- a room that is accepted and written as it should be
pub mod Rooms
-- a live room, test by test
pub mod Live
-- what the tests are asked, and tell
pub mod Asked
