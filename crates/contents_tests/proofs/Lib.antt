pub mod BegunRows
pub mod DriveDies
pub mod WrittenBases
