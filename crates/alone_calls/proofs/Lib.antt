pub mod RepliedReads
pub mod RepliedRefreshes
pub mod RoomTests
pub mod WholeCalls
