pub mod BlankImages
pub mod FactoryBad
