-- what the rules of an empty row are asked
pub mod Pending
-- that what they leave is what the definitions have
pub mod Meets
