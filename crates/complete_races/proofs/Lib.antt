mod CompleteRaces
