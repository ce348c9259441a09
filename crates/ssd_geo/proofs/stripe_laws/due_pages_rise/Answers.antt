use Rattle.ssd_geo.proofs.Stripes.{due_pages_ends, due_pages_step, pages_rise}
use Rattle.ssd_geo.proofs.stripe_laws.due_pages_rise.Goals as goal

pub returns : goal.returns
returns c = record { ends = due_pages_ends; next_page = pages_rise; step = due_pages_step }
