pub mod Gathered
pub mod Scattered
pub mod TwoLeast
