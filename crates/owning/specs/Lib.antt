-- a head whose rule touches only the machine itself
pub mod Owning
