pub mod BothPages
pub mod ChangedBlocks
pub mod HeldDies
pub mod OperationLemmas
pub mod KeptSums
pub mod Mounted
