pub mod Addresses
pub mod Keeps
pub mod Sending
pub mod Sessions
