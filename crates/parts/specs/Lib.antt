-- a room's row of parts: how it reads, and what the functions leave
pub mod Parts
