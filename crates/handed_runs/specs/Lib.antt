-- a run and a regrouping of what is handed in
pub mod HandedRuns
-- numbers written from the front of a row
pub mod Fronted
-- demand 3 of what is handed in
pub mod Five
