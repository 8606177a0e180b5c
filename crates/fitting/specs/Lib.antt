-- the test of what lies in the arrays is the test of what is handed in
pub mod Fitting
