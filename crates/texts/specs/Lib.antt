-- the line format and the answer to a text, to be read in this order
pub mod Bytes
pub mod Numbers
pub mod Forms
pub mod Reading
pub mod Answered
-- the answers 4 to 9 apart from what is loaded
pub mod Verdict
-- small texts and their answers
pub mod Examples
