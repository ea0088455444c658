pub mod Chip
pub mod Code
