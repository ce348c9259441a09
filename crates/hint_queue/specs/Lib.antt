pub mod Orders
pub mod Kept
pub mod Steps
pub mod Counts
pub mod Places
pub mod Gathered
