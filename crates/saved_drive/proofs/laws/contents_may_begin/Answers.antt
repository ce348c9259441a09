use Rattle.saved_drive.proofs.SavedChannels.{contents_may_begin}
use Rattle.saved_drive.proofs.laws.contents_may_begin.Goals as goal

pub returns : goal.returns
returns c = contents_may_begin
