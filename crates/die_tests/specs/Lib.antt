pub mod SmallDies
