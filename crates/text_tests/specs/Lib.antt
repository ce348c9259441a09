pub mod CountedReplies
