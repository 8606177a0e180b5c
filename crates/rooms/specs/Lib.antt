-- rooms by their places
pub mod Places
-- the rooms of the flat lists, by their places
pub mod Standing
