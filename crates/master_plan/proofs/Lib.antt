pub mod At
pub mod Checks
pub mod Lengths
