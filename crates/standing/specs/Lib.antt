-- a program as its tables read, and what they can hold
pub mod Stood
-- tables written and read back: any; those of plain rows; statements with their pairs; states with what they defer; the program
pub mod Columns
pub mod Plain
pub mod Statements
pub mod States
pub mod Reads
-- pass 4 over both: a row at a time; where it is met nothing is cut; the first fault
pub mod Alike
pub mod Uncut
pub mod Faults
-- the verdict of the tables
pub mod Standing
-- variables of a kind that is not there
pub mod Absent
