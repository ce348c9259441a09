pub mod HeadParts
pub mod LineText
pub mod RowWords
pub mod TraceParts
