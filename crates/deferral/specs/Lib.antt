-- deferral after a return, to be read in this order
pub mod Stacks
pub mod Returns
pub mod Campaign
