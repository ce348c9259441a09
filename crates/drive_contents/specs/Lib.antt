pub mod LoadedDrive
