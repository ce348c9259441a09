pub mod DiesLoaded
pub mod Loads
pub mod Parts
pub mod RowMarks
pub mod Taken
