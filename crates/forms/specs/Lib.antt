-- the forms in one text; the first that a line is in; what is told of it; the values at their places; examples
pub mod Laid
pub mod Rows
pub mod Trying
pub mod Recognised
pub mod Values
pub mod Examples
