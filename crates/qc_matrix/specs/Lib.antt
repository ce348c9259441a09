pub mod Fault
pub mod Entries
pub mod Layers
