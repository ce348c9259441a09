pub mod BlankContents
pub mod HeadFields
pub mod SavedBlocks
pub mod SavedCells
pub mod SavedRows
pub mod SavedStarts
pub mod SavedSums
