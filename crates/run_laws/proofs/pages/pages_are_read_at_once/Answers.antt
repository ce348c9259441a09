use Rattle.run_laws.proofs.ReadPages.{pages_are_read}
use Rattle.run_laws.proofs.pages.pages_are_read_at_once.Goals as goal

pub returns : goal.returns
returns c = pages_are_read
