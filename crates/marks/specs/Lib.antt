-- a table of marks, a row for each kind
pub mod Sheet
-- what the tables hold: heights of statements, and which statement serves which kind
pub mod Marks
-- the numbers in a statement or an expression
pub mod Inner
-- tables, worked out upward
pub mod Climbs
-- heights, worked out upward
pub mod Tall
-- marks, passed on downward
pub mod Flow
-- a row of marks for each kind
pub mod Kinds
