pub mod ReadingLemmas
pub mod Spelling
