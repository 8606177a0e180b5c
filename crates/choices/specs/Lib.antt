-- a choice as one number
pub mod Choices
