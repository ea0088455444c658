pub mod Answers
pub mod Superseding
pub mod Outcome
