use Rattle.ssd_histories.proofs.PinnedWords.{pinned_pages_stay}
use Rattle.ssd_histories.proofs.look_laws.pinned_pages_stay.Goals as goal

pub returns : goal.returns
returns c = pinned_pages_stay
