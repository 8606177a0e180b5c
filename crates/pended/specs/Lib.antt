-- what is asked and left where something is pending, and which rule it is
pub mod Pended
