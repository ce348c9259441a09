use Rattle.std.proofs.Common.{◌≡◌, ◌<◌, ℕ}
use Rattle.ssd_histories.specs.Blocks.{block_at}
use Rattle.chan_tables.specs.Filling.{info_at, info_of_block}
use Rattle.chan_tables.proofs.tables.filling.fill_states.Given as goal

abbrev pub invariant-loop-sb : goal.invariant-loop-sb
invariant-loop-sb l = (k : ℕ) → k < l.sb → info_at l.infos k ≡ info_of_block l.slots (block_at l.blocks.blocks k)
