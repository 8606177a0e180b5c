-- what the pairs of an init list name
pub mod Naming
