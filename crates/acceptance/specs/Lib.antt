-- the configurations that are accepted, and the test that decides it
pub mod Accepted
pub mod Decide
-- laws of values that suit their variables
pub mod Typed
