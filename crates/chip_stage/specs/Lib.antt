pub mod Limits
pub mod Stages
pub mod Reads
pub mod Writes
