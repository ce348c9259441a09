use Rattle.contents_start.proofs.BlankContents.{blank_contents_are_saved}
use Rattle.contents_start.proofs.starts.blank_contents_are_saved.Goals as goal

pub returns : goal.returns
returns c = blank_contents_are_saved
