-- the moves and the pairs that a line says
pub mod Counted
-- the bytes of a line by its fields, and the fewest that a form has
pub mod Weights
-- how many bytes a line has at least, by the moves and the pairs that it says
pub mod Lengths
