pub mod ContentsLaws
pub mod FieldLaws
pub mod HeadLaws
pub mod LineLaws
pub mod NumberLaws
pub mod SpelledContents
pub mod SpelledHeads
pub mod TextLaws
