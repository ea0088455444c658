pub mod Collect
pub mod Filled
pub mod Refusals
pub mod Scan
pub mod Tests
pub mod Values
pub mod Words
