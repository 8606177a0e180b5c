-- document 002's rules and 13, 19 and 20 in the document's words: that the step is as they say
pub mod Match
pub mod Occasions
