use Rattle.recovery_laws.proofs.WordData.{words_have_data}
use Rattle.recovery_laws.proofs.page_data.words_have_data.Goals as goal

pub returns : goal.returns
returns c = words_have_data
