-- what rows and rooms lifted from the flat lists are
pub mod Lifting
