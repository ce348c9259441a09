pub mod DiesFit
pub mod FitLaws
