mod StoppedRace
