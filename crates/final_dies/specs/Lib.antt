pub mod FinalDies
