-- the regrouped list, and what is asked of it
pub mod Regrouped
pub mod Example
pub mod Demand
-- how the theorem over any step is shown: the entries machine by machine, and the moves that regrouping makes
pub mod Tails
pub mod Swaps
-- an entry more
pub mod Mine
-- a run and its labels
pub mod Labelled
-- the same choices
pub mod Same
