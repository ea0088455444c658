pub mod Image
pub mod Lookup
pub mod Sheet
