pub mod Superblocks
