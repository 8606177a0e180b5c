-- what is asked of the numbers
pub mod Numbers
-- tests that decide it
pub mod Tests
