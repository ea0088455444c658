pub mod Demand
pub mod Derived
pub mod Ds2505
pub mod Plays
pub mod Ranges
