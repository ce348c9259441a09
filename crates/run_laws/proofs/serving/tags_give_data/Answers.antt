use Rattle.run_laws.proofs.TaggedData.{tags_give_data}
use Rattle.run_laws.proofs.serving.tags_give_data.Goals as goal

pub returns : goal.returns
returns c = tags_give_data
