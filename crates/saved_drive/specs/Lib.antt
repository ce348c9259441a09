pub mod Begun
pub mod Contents
