pub mod HeldLooks
pub mod PageData
pub mod ReadReplies
pub mod RecoveredReads
