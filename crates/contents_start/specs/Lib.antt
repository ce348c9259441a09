pub mod ContentsStart
