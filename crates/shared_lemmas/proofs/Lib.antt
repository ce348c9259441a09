pub mod Lists
pub mod Positions
pub mod Tests
pub mod WordBits
