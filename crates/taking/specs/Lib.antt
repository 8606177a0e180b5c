-- what a line in each form says; what the arrays hold, and that there is room for the next line; of the variables: what the arrays hold, one more counted, put or
-- noted, and what they hold then
pub mod Lines
pub mod Held
pub mod Variables
pub mod Entered
pub mod More
