-- which statements have no raise, return or leave inside, and the states whose exits are such
pub mod Quiet
