pub mod Find
pub mod Ranges
pub mod Accepted
pub mod OddSums
