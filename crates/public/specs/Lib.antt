pub mod Public
pub mod Exact
