pub mod Rows
pub mod Update
