use Rattle.ssd_histories.proofs.BlockSteps.{blocks_after_entry}
use Rattle.ssd_histories.proofs.block_laws.blocks_after_entry.Goals as goal

pub returns : goal.returns
returns c = blocks_after_entry
