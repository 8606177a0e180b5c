-- meetings, and the regrouped list
pub mod Meetings
-- why a dequeue is a meeting
pub mod Example
-- demand 3
pub mod Good
