pub mod FittingDies
