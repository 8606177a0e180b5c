-- a rule or an answer
pub mod Outcome
-- what the rule functions are asked and leave
pub mod Engine
-- how the rows of the flat lists hold a machine
pub mod Holding
