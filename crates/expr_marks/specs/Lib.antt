-- which expression serves which kind
pub mod Naming
