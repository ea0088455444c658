pub mod Publisher
pub mod Update
