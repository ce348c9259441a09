pub mod LoadedChannel
pub mod LoadedDies
pub mod LoadedWorker
pub mod LoneCaller
