pub mod Codewords
pub mod SavableBlocks
pub mod SavableRows
pub mod SavableStarts
pub mod SavedBases
pub mod Tests
