mod BegunDrains
mod EndedRaces
mod MadeHints
mod MadeRaces
mod SeenPasts
