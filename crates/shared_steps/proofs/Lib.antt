pub mod AddedEntries
pub mod CarriedSteps
pub mod OtherEntries
pub mod Passes
pub mod SharedSteps
pub mod TracedSteps
pub mod TurnSteps
