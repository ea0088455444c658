pub mod Frees
pub mod Pages
mod Pigeon
pub mod Scan
pub mod Walks
