pub mod Rom
