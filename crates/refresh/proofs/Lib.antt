mod AloneRefreshes
pub mod CopiedPages
pub mod FaultReplies
