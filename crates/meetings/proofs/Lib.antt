-- demand 3
pub mod Bridge
pub mod Good
