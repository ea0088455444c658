pub mod Number
pub mod Page
pub mod Publisher
pub mod Code
