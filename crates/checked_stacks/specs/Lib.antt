-- laws of lists: a part of a part, rows of one width, lists that are kept last element first
pub mod Widths
-- a call stack that is handed in: what is asked of it, and what that says of its numbers
pub mod CheckedStacks
