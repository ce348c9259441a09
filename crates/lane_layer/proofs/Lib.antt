pub mod Codes
pub mod LaneValues
pub mod RowLists
pub mod ToldCodes
pub mod TurnedRows
pub mod WholeLayer
