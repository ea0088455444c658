pub mod Image
pub mod Layout
pub mod Memory
pub mod Page
pub mod Write
