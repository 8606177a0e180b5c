-- the tables that hold a program, and what a text is loaded as
pub mod Tabled
-- how long their rows are
pub mod Widths
