pub mod StoppedRace
