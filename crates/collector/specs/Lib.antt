pub mod Alone
pub mod AloneReplies
pub mod Collects
pub mod Emptying
pub mod Rooms
pub mod Rounds
pub mod Stops
pub mod Writes
