pub mod Codes
pub mod Events
pub mod Slots
