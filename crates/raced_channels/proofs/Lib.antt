pub mod BegunTraced
pub mod Cuts
pub mod Grown
pub mod LockedChannels
