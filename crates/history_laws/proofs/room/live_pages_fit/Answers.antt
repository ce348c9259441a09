use Rattle.history_laws.proofs.LivePages.{live_pages_fit}
use Rattle.history_laws.proofs.room.live_pages_fit.Goals as goal

pub returns : goal.returns
returns c = live_pages_fit
