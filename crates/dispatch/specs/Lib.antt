-- which rule's case a machine is in, by the numbers that stand in its room
pub mod Cases
-- the step by these cases
pub mod Dispatch
