-- which kind of line a form's number is
pub mod Rows
-- what the arrays hold of the lines so far, and of one more
pub mod Gathered
pub mod Fronts
pub mod Backs
-- what is asked of the arrays
pub mod Asked
-- lines taken
pub mod FrontTook
pub mod BackTook
pub mod LineTook
