-- the first pair that is not held back
pub mod Search
-- what DEQUEUE is asked and leaves
pub mod Dequeuing
