mod Appending
pub mod WriteSteps
