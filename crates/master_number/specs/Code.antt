pub mod NumberSteps
