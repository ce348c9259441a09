use Rattle.recovery_laws.proofs.StartPages.{starts_have_named_pages}
use Rattle.recovery_laws.proofs.page_data.starts_have_named_pages.Goals as goal

pub returns : goal.returns
returns c = starts_have_named_pages
