pub mod ContentsEnd
