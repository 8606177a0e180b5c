-- what RAISE is asked, and what it leaves
pub mod Raising
