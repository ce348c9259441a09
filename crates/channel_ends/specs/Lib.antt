pub mod ChannelEnds
pub mod EndedRuns
pub mod SavedImage
