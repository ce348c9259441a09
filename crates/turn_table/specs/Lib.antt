pub mod Passes
pub mod Views
pub mod Kept
pub mod Steps
pub mod Places
