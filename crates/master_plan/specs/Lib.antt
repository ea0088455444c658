pub mod Code
pub mod Kind
pub mod Places
pub mod Plan
