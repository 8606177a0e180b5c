-- what a rule of the head statement is asked, and what it leaves
pub mod Heading
-- conditions
pub mod Conditions
-- what the rules of src/lib.rt leave, a law for each way out
pub mod Left
