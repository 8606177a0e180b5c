-- before the first line; the program that the arrays hold after the last; what is answered
pub mod Beginning
pub mod Holding
pub mod Loading
