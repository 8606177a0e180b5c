-- what laying rooms makes of the flat lists
pub mod Laying
