pub mod CompleteRaces
