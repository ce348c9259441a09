mod LineParts
mod Ranges
mod RowSteps
mod WorkParts
