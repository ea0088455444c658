-- Definitions that only mirror private code: no public contract is stated by them alone.
pub mod Number
pub mod Page
pub mod Publisher
