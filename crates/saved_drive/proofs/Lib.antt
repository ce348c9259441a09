pub mod MoreChannels
pub mod MountedDies
pub mod SavedChannels
pub mod StartsOfRuns
