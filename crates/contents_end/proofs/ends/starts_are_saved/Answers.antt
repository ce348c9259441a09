use Rattle.contents_end.proofs.SavableStarts.{starts_are_saved}
use Rattle.contents_end.proofs.SavedBases.{saved_starts_have_their_bases}
use Rattle.contents_end.proofs.ends.starts_are_saved.Goals as goal

pub returns : goal.returns
returns c = record { saved = starts_are_saved; bases = saved_starts_have_their_bases }
