use Rattle.std.proofs.Common.{ℕ, ◌≡◌, ◌+◌, ◌*◌, ◌∙◌, map, drop, take, refl, ap, sym, arith}
use Rattle.std.specs.List.{drop-map, take-map}
use Rattle.final_dies.specs.FinalDies.{dies_of_channel}
use Rattle.ssd_formats.specs.ImageHead.{head_of}
use Rattle.blank_drive.proofs.BegunChannels.{are_dies_of, gone, next_begun, next_view, none_begun, none_gone, one_more_channel}
use Rattle.blank_drive.proofs.RunStarts.{stand_at_starts}
use Rattle.blank_drive.proofs.beginning.begin_channels.Goals as goal

pub loop-number-init : goal.loop-number-init
loop-number-init g c = record {
  left = none_gone c.args.dies.now.items c.args.head.now.shape.dies;
  policies = refl;
  count = c.new-channels.ensures.len;
  begun =
      none_begun (head_of c.args.head.now) c.args.limit (map g.D.Die.state c.args.dies.now.items) _ _
      (ap (map (λ channel. channel.kept)) c.new-channels.ensures.items);
  views = ap (map (λ channel. g.P.Policy.told channel.policy)) c.new-channels.ensures.items;
}

pub begin_channel-requires-clause-dies : goal.begin_channel-requires-clause-dies
begin_channel-requires-clause-dies g c =
    let state = g.D.Die.state in
    let dies = c.args.dies.now.items in
    let count : ℕ = c.args.head.now.shape.dies in
    let number : ℕ = c.loop-number.number in
    let own : map state c.in_ok-own.own.items ≡ dies_of_channel count (map state dies) number =
    ap (map state) (c.in_ok-own.ensures.taken ∙ ap (take count) c.loop-number.invariant.left)
    ∙ sym (ap (take count) (drop-map state (number * count) dies) ∙ take-map state count (drop (number * count) dies)) in
    are_dies_of c.args.head.now (map state dies) number c.requires.dies c.loop-number-test.true (map state c.in_ok-own.own.items) own

pub loop-number-preserved : goal.loop-number-preserved
loop-number-preserved g c = record {
  left =
      gone c.args.dies.now.items c.take_first.new.dies.items c.loop-number.dies.items
      (c.loop-number.number * c.args.head.now.shape.dies) c.args.head.now.shape.dies
      ((c.loop-number.number + 1) * c.args.head.now.shape.dies) c.loop-number.invariant.left c.in_ok-own.ensures.left
      (one_more_channel c.args.head.now.shape.dies c.loop-number.number);
  policies =
      gone c.args.policies.items c.remove-policy.new.self.items c.loop-number.policies.items c.loop-number.number 1
      (c.loop-number.number + 1) c.loop-number.invariant.policies c.remove-policy.ensures.items refl;
  count = omega (arith, c.in-Ok.ensures.len, c.loop-number.invariant.count);
  begun =
      next_begun c.args.policies.items c.loop-number.policies.items c.loop-number.channels.items c.push.new.self.items c.args.dies.now.items
      c.in_ok-own.own.items c.remove-policy.result c.in_ok-channel.channel
      (λ policy. g.P.Policy.told policy) (λ channel. channel.kept)
      (λ channel. g.P.Policy.told channel.policy) g.D.Die.state c.loop-number.number
      (omega (arith, c.requires.policies, c.loop-number-test.true)) c.loop-number.invariant.policies c.remove-policy.ensures.value
      (omega (arith, c.loop-number.invariant.count)) c.in-Ok.ensures.items
      (head_of c.args.head.now) c.args.limit
      (c.in_ok-own.ensures.taken ∙ ap (take c.args.head.now.shape.dies) c.loop-number.invariant.left) c.loop-number.invariant.begun
      c.in_ok-channel.ensures.begun;
  views =
      next_view c.args.policies.items c.loop-number.policies.items c.loop-number.channels.items c.push.new.self.items c.args.dies.now.items
      c.in_ok-own.own.items c.remove-policy.result c.in_ok-channel.channel
      (λ policy. g.P.Policy.told policy) (λ channel. channel.kept)
      (λ channel. g.P.Policy.told channel.policy) g.D.Die.state c.loop-number.number
      (omega (arith, c.requires.policies, c.loop-number-test.true)) c.loop-number.invariant.policies c.remove-policy.ensures.value
      (omega (arith, c.loop-number.invariant.count)) c.in-Ok.ensures.items
      c.loop-number.invariant.views c.in_ok-channel.ensures.view;
}

pub returns-clause-starts : goal.returns-clause-starts
returns-clause-starts g c =
    stand_at_starts c.args.head.now c.args.limit (map g.D.Die.state c.args.dies.now.items)
    (map (λ policy. g.P.Policy.told policy) c.args.policies.items)
    (map (λ channel. channel.kept) c.loop-number.channels.items) c.loop-number.invariant.begun
