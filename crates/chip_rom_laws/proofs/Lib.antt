pub mod Commands
pub mod Kept
pub mod NumberBits
pub mod Numbers
pub mod Searches
pub mod Sessions
pub mod Turns
