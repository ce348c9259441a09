pub mod SerialLooks
pub mod SerialOrder
pub mod SerialReplies
