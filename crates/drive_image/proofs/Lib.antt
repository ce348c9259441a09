pub mod LentDies
pub mod MountedDies
pub mod SavedChannels
pub mod SaveSteps
