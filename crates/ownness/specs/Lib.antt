-- no foreign variable, as the tables tell it
pub mod Own
