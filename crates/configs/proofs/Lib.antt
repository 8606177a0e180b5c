-- that what is written is read back
pub mod RoundTrip
