use Rattle.std.proofs.Common.{◌≡◌, [], ◌∷◌, length, arith}
use Rattle.std.proofs.lemmas.Grind.{common_steps}
use Rattle.std.proofs.lemmas.List.Elements.{All-append, All-cons, All-nil}
use Rattle.chan_state.specs.ChannelState.{EndsWhole}
use Rattle.blank_drive.proofs.ending.end_channels.Goals as goal

pub loop-channel-preserved : goal.loop-channel-preserved
loop-channel-preserved g c = record {
  dies = grind (arith, common_steps);
  counts =
      All-append (λ channel. length channel.kept.dies ≡ channel.kept.shape.dies) c.loop-channel.yielded (c.in-Some.channel ∷ [])
      c.loop-channel.invariant.counts
      (All-cons (λ channel. length channel.kept.dies ≡ channel.kept.shape.dies) c.in-Some.channel [] c.finish-own.ensures.count
      (All-nil (λ channel. length channel.kept.dies ≡ channel.kept.shape.dies)));
  histories = grind (arith, common_steps);
  parts = grind (arith, common_steps);
  whole =
      All-append (λ channel. EndsWhole channel.kept) c.loop-channel.yielded (c.in-Some.channel ∷ [])
      c.loop-channel.invariant.whole
      (All-cons (λ channel. EndsWhole channel.kept) c.in-Some.channel [] c.finish-own.ensures.whole
      (All-nil (λ channel. EndsWhole channel.kept)));
}
