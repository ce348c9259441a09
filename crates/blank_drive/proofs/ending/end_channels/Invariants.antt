use Rattle.std.proofs.Common.{◌≡◌, All, flat_map, length, map}
use Rattle.ssd_histories.specs.History.{history_of}
use Rattle.chan_state.specs.ChannelState.{EndsWhole, parts_of}
use Rattle.blank_drive.proofs.ending.end_channels.Given as goal

-- the dies, the histories and the parts of the channels so far, each of which had all its dies and ended whole
abbrev pub invariant-loop-channel : goal.invariant-loop-channel
invariant-loop-channel g l = record {
  dies : map g.D.Die.state l.dies.items ≡ flat_map (λ channel. channel.kept.dies) l.yielded;
  counts : All (λ channel. length channel.kept.dies ≡ channel.kept.shape.dies) l.yielded;
  histories : l.histories.items ≡ map (λ channel. history_of channel.kept.past) l.yielded;
  parts : l.parts.items ≡ map (λ channel. parts_of channel.kept) l.yielded;
  whole : All (λ channel. EndsWhole channel.kept) l.yielded;
}
