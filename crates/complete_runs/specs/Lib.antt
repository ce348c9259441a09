pub mod BlankRuns
pub mod CompleteRuns
pub mod OrderedRuns
pub mod PlainAnswers
pub mod TakenWrites
pub mod ToldLevels
pub mod TraceAnswers
pub mod UncountedRuns
