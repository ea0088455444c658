pub mod Plan
pub mod Start
