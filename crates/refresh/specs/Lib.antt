pub mod Alone
pub mod Refreshes
