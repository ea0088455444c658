pub mod Tenths
pub mod Rows
