use Rattle.saved_drive.proofs.SavedChannels.{saved_serials_are_small}
use Rattle.saved_drive.proofs.laws.saved_serials_are_small.Goals as goal

pub returns : goal.returns
returns c = saved_serials_are_small
