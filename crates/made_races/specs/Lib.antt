pub mod BegunDrains
pub mod EndedRaces
pub mod MadeHints
pub mod MadeRaces
pub mod SeenPasts
