-- reading from a place of the text on
pub mod Turns
-- the order of the lines, and their bytes
pub mod Order
-- before a line and after it
pub mod Loop
-- one line read
pub mod LineRead
