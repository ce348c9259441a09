pub mod AcceptedPages
pub mod AddedKinds
pub mod AloneCollects
pub mod AloneHosts
pub mod AloneSteps
pub mod AloneTables
pub mod AnsweredLooks
pub mod BegunLadders
pub mod ClimbingLooks
mod CopiesAlone
pub mod CopyCalls
pub mod EncodedPages
pub mod FailedLooks
pub mod LadderPlaces
pub mod MovedLooks
pub mod NewLooks
pub mod ReadCalls
mod ReadsAlone
pub mod RefreshReplies
pub mod SensedLooks
pub mod SensedSteps
pub mod WrittenBuffers
pub mod WrittenCalls
