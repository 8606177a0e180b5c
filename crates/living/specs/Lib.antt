-- the machines left
pub mod Living
