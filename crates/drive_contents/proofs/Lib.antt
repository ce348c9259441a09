pub mod BlankDrives
pub mod LentPart
pub mod LoadSteps
pub mod Pieces
