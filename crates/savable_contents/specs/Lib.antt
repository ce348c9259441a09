pub mod SavableContents
