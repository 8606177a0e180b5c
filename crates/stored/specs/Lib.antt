-- the tables that a rule looks into say what the program says
pub mod Stated
-- the values of a machine that stands in a room: how an expression reads them, and what a store makes of them
pub mod Stored
