pub mod Begun
pub mod Columns
pub mod Locks
