-- what a run of a program in its tables is asked, and its loop in turn
pub mod AcceptedRuns
