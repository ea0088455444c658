pub mod Joins
mod Runs
