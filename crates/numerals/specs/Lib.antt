-- the numbers as the code has them: cut
pub mod Numerals
-- the loop over the digits
pub mod Digits
-- the parts of a list between the bytes c, by their places
pub mod Splits
