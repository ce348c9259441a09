pub mod NumberTexts
pub mod OptionWords
pub mod Commands
