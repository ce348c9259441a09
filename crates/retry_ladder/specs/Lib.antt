pub mod Decoder
pub mod Kept
pub mod Ready
pub mod Running
pub mod View
pub mod Work
