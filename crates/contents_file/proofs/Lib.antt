pub mod BlockBytes
pub mod DieSteps
pub mod PutSteps
pub mod SpelledBytes
