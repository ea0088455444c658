pub mod Code
pub mod Number
pub mod NumberRead
