-- what is handed in, laid into the flat arrays, tested and run
pub mod Running
