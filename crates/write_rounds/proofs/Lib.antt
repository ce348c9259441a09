pub mod AloneRounds
