pub mod BlankImages
