use Rattle.saved_drive.proofs.MountedDies.{dies_stay_mounted, ready_dies_are_mounted}
use Rattle.saved_drive.proofs.laws.dies_stay_mounted.Goals as goal

pub returns : goal.returns
returns c = record { ready = ready_dies_are_mounted; loaded = dies_stay_mounted }
