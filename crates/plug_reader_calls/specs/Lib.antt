pub mod Number
pub mod Page
