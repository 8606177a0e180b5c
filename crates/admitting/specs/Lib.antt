-- what the test is asked, and what it tells of the program
pub mod Admitting
