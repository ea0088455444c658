pub mod Walk
pub mod Chain
pub mod Scan
pub mod Free
