-- the theorem, over any step
pub mod Swaps
pub mod Theorem
-- the next machine by number; an entry's machine and its class are all that counts
pub mod Mine
pub mod Maps
