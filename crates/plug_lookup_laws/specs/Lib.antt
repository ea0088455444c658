pub mod Superseding
pub mod Outcome
