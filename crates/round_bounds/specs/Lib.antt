pub mod RoundBounds
pub mod RoundExamples
