pub mod Free
pub mod Page
pub mod Walk
