-- a row of parts that is handed in: what is asked of it, and what that says of its numbers
pub mod CheckedRows
