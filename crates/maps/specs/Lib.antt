-- what the tables say, and laws of a map that is read and written in a flat array
pub mod Maps
