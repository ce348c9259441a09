pub mod Found
pub mod LayerSteps
pub mod Packing
