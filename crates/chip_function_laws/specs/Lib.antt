pub mod Streams
pub mod Addresses
pub mod Ranges
pub mod Reads
pub mod Writes
