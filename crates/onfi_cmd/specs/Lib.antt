pub mod Addresses
pub mod Cycles
pub mod DieCalls
pub mod DieState
pub mod Reading
