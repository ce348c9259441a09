pub mod Fields
mod Filling
pub mod FixedParts
mod HeadInParts
mod HeadRanges
pub mod LevelSteps
mod ListRanges
pub mod MatrixSteps
mod SizeRanges
mod SpelledFields
