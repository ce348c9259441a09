pub mod BegunChannels
pub mod BlankStarts
pub mod HeadLaws
pub mod MountedDrives
pub mod RunStarts
pub mod SameSizes
