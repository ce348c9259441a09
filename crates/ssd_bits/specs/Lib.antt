pub mod Runs
pub mod BitPlace
