pub mod RaceEnds
pub mod RaceHeadline
pub mod RaceHints
pub mod RaceRoom
