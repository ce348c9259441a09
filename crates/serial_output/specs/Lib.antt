pub mod ExactHints
pub mod OneEnding
pub mod OneOutput
pub mod SameChoices
pub mod StopExamples
pub mod StoppedLooks
