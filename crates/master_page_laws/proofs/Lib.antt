pub mod Blocks
pub mod Demand
pub mod Derived
pub mod Ds2505
pub mod Hears
pub mod Joined
pub mod Plays
pub mod Ranges
