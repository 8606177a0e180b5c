pub mod TableK
