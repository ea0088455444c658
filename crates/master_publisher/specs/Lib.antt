pub mod Call
pub mod Code
pub mod Start
pub mod Stop
