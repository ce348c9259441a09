pub mod BlockParts
pub mod DiesCopied
pub mod Saves
