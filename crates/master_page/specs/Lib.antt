pub mod Code
pub mod Page
pub mod PageRead
pub mod Held
