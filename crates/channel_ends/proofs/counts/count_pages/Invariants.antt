use Rattle.std.proofs.Common.{◌<◌, ℕ, map}
use Rattle.chan_dies.specs.DiesState.{die_at}
use Rattle.channel_ends.specs.ChannelEnds.{HasFewPages}
use Rattle.channel_ends.proofs.counts.count_pages.Given as goal

abbrev pub invariant-loop-die : goal.invariant-loop-die
invariant-loop-die g l = (die : ℕ) → die < l.die → HasFewPages l.shape (die_at (map g.D.Die.state l.dies) die)
