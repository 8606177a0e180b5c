-- what is asked of a queue, and laws of its test
pub mod Queues
