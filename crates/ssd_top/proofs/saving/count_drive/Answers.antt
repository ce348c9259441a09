use Rattle.std.proofs.Common.{ℕ, map}
use borrow.Author.Count.{below_more}
use Rattle.channel_ends.specs.ChannelEnds.{HaveFewPages}
use Rattle.final_dies.specs.FinalDies.{dies_of_channel}
use Rattle.ssd_top.proofs.saving.count_drive.Goals as goal

pub loop-channel-preserved : goal.loop-channel-preserved
loop-channel-preserved g c =
    below_more
    (λ (channel : ℕ). HaveFewPages c.args.shape.now (dies_of_channel c.args.shape.now.dies (map g.D.Die.state c.args.dies.now) channel))
    c.loop-channel.channel c.loop-channel.invariant c.count_channel.ensures
