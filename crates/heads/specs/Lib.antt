-- what the engine's step is asked
pub mod Asked
-- what the rule of a head statement leaves, as the definitions have it
pub mod Heads
