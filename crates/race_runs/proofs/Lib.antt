pub mod ActorHints
pub mod EmptyQueues
pub mod OrderedPages
pub mod RaceEnds
pub mod RaceHeadline
pub mod RaceHints
pub mod RaceRoom
