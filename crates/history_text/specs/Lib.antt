pub mod Printing
pub mod WordText
pub mod TextParts
pub mod Places
pub mod SummaryText
pub mod Pieces
pub mod StepWords
pub mod LinesLeft
