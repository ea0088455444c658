pub mod Images
pub mod Laws
pub mod Parts
pub mod Plans
pub mod Readings
pub mod Starts
pub mod Stretches
