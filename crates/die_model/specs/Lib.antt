pub mod Listed
pub mod ListedCalls
pub mod SimState
pub mod Simulated
pub mod Stored
