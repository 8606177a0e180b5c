-- the lists, and what each of their parts says
pub mod Listings
-- two numbers compared by their digits
pub mod Order
-- the parts that are left
pub mod Left
-- the parts one by one
pub mod Pieces
-- parts whose keys ascend
pub mod Rising
-- the parts of an ascending list
pub mod Going
-- how many pairs a list can have
pub mod Counts
