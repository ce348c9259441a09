pub mod BlankChannels
pub mod ZeroWords
