pub mod BegunCalls
pub mod Drains
pub mod RaceReplies
pub mod Races
pub mod RacesMade
pub mod TwoActorsRace
