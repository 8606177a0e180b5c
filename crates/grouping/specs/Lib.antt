-- what regroup answers, occasion by occasion
pub mod Grouping
