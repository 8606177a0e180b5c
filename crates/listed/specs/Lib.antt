-- what the parts that are left say
pub mod Says
-- the flags of a list of events
pub mod Flags
-- pairs in the pool
pub mod Pool
