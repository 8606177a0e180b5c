-- the definition of what is written
pub mod Placed
-- placing by the definition's list, and by the run's rules
pub mod Regroups
pub mod ByRun
-- a machine's part of the choices
pub mod Written
-- the table of the machines that have choices not yet placed
pub mod Waiting
pub mod Closing
-- the meetings, and the tails
pub mod Weaving
pub mod Tailing
pub mod Ending
