pub mod Header
pub mod Lookup
pub mod Rows
