use Rattle.ssd_geo.proofs.StripeLists.{due_pages_add_up}
use Rattle.ssd_geo.proofs.stripe_laws.due_pages_add_up.Goals as goal

pub returns : goal.returns
returns c = due_pages_add_up
