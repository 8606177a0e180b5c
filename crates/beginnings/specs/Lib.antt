-- the values of `init`
pub mod Inits
-- the first state of a kind
pub mod Initial
