pub mod List
pub mod Stored
pub mod Text
pub mod Rows
pub mod Writer
