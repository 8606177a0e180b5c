-- what the tables hold: heights of expressions, and how many stars they have
pub mod Trees
-- the stars of a statement
pub mod Stars
-- what is asked of the lines, as the tables tell it
pub mod Low
