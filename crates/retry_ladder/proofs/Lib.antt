mod AddedWords
mod BestLevel
mod FoundWords
mod KeptCodes
mod LadderStages
mod LadderSteps
mod NextPlaces
mod PageCodes
mod Places
mod PlaceSteps
mod PutSenses
pub mod Standing
mod WorkSteps
