pub mod Gaps
pub mod Pages
pub mod Sizes
