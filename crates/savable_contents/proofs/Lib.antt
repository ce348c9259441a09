pub mod SavableStarts
pub mod SmallTags
pub mod ReadAgain
