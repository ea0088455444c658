pub mod Distinct
mod Linear
pub mod Runs
mod Steps
pub mod Table
