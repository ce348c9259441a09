pub mod DiesState
pub mod Erasing
pub mod Kept
pub mod OneDie
pub mod Operations
pub mod Programming
