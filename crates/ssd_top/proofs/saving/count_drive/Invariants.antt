-- The dies of the channels so far tell no more pages than a block has.
use Rattle.std.proofs.Common.{ℕ, ◌<◌, map}
use Rattle.channel_ends.specs.ChannelEnds.{HaveFewPages}
use Rattle.final_dies.specs.FinalDies.{dies_of_channel}
use Rattle.ssd_top.proofs.saving.count_drive.Given as goal

abbrev pub invariant-loop-channel : goal.invariant-loop-channel
invariant-loop-channel g l =
    (channel : ℕ) → channel < l.channel → HaveFewPages l.shape (dies_of_channel l.shape.dies (map g.D.Die.state l.dies) channel)
