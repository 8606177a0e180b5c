-- what is asked of each line of a program, answer by answer
pub mod Asked
-- a program that meets it all, and the test that decides it
pub mod Sound
-- what follows where every line meets it
pub mod Lines
-- what the steps rest on of it
pub mod Founded
-- which a sound program has
pub mod SoundFounded
