use Rattle.contents_start.proofs.SavedStarts.{contents_make_starts, loaded_dies_make_starts}
use Rattle.contents_start.proofs.starts.contents_make_starts.Goals as goal

pub returns : goal.returns
returns c = record { saved = contents_make_starts; loaded = loaded_dies_make_starts }
