pub mod Images
pub mod Readings
pub mod Relink
pub mod Stores
