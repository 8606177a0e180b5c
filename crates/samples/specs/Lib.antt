-- Written by `python3 second/statements.py --write crates/samples/specs`, and not to be edited by hand.
pub mod Seen
-- texts that are refused
pub mod Refused1
pub mod Refused2
-- runs that a refused choice ends
pub mod Stopped1
pub mod Stopped2
pub mod Stopped3
-- runs that take every choice
pub mod Done1
pub mod Done2
