pub mod Laws
pub mod Listed
pub mod Plays
pub mod Ranges
pub mod Script
