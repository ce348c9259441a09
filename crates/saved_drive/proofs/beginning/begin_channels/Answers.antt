use Rattle.std.proofs.Common.{◌+◌, ◌*◌, ◌<◌, map, length, refl, ap, arith}
use Rattle.blank_drive.proofs.BegunChannels.{gone, next_view, none_gone, one_more_channel}
use Rattle.saved_drive.proofs.MoreChannels.{next_begun, next_of, none_begun, own_is}
use Rattle.saved_drive.proofs.SavedChannels.{may_begin_at}
use Rattle.saved_drive.proofs.StartsOfRuns.{stand_at_starts}
use Rattle.saved_drive.proofs.beginning.begin_channels.Goals as goal

pub loop-number-init : goal.loop-number-init
loop-number-init g c = record {
  left = none_gone c.args.dies.now.items c.args.head.now.shape.dies;
  bases = refl;
  policies = refl;
  count = c.new-channels.ensures.len;
  begun =
      none_begun c.args.bases.items c.args.limit c.args.head.now.shape.dies (map g.D.Die.state c.args.dies.now.items) _ _
      (ap (map (λ channel. channel.kept)) c.new-channels.ensures.items);
  views = ap (map (λ channel. g.P.Policy.told channel.policy)) c.new-channels.ensures.items;
}

pub start-requires : goal.start-requires
start-requires g c =
    let as_many = c.requires.image.1.as_many_bases in
    let below : c.loop-number.number < length c.args.bases.items = omega (arith, as_many, c.loop-number-test.true) in
    may_begin_at c.args.head.now c.args.bases.items (map g.D.Die.state c.args.dies.now.items) c.loop-number.number
    c.remove-base.result (map g.D.Die.state c.in_ok-own.own.items) c.args.limit (g.P.Policy.told c.remove-policy.result)
    c.requires.head c.requires.mounted c.requires.image c.loop-number-test.true
    (next_of c.args.bases.items c.loop-number.bases.items c.loop-number.number c.remove-base.result c.loop-number.invariant.bases
    below c.remove-base.ensures.value)
    (own_is g.D.Die.state c.args.dies.now.items c.loop-number.dies.items c.in_ok-own.own.items c.args.head.now.shape.dies
    c.loop-number.number c.loop-number.invariant.left c.in_ok-own.ensures.taken)
    c.requires.limit_low c.requires.limit_high

pub loop-number-preserved : goal.loop-number-preserved
loop-number-preserved g c =
    let as_many = c.requires.image.1.as_many_bases in
    let below : c.loop-number.number < length c.args.bases.items = omega (arith, as_many, c.loop-number-test.true) in
    let enough : c.loop-number.number < length c.args.policies.items = omega (arith, c.requires.policies, c.loop-number-test.true) in
    record {
      left =
          gone c.args.dies.now.items c.take_first.new.dies.items c.loop-number.dies.items
          (c.loop-number.number * c.args.head.now.shape.dies) c.args.head.now.shape.dies
          ((c.loop-number.number + 1) * c.args.head.now.shape.dies) c.loop-number.invariant.left c.in_ok-own.ensures.left
          (one_more_channel c.args.head.now.shape.dies c.loop-number.number);
      bases =
          gone c.args.bases.items c.remove-base.new.self.items c.loop-number.bases.items c.loop-number.number 1
          (c.loop-number.number + 1) c.loop-number.invariant.bases c.remove-base.ensures.items refl;
      policies =
          gone c.args.policies.items c.remove-policy.new.self.items c.loop-number.policies.items c.loop-number.number 1
          (c.loop-number.number + 1) c.loop-number.invariant.policies c.remove-policy.ensures.items refl;
      count = omega (arith, c.in-Ok.ensures.len, c.loop-number.invariant.count);
      begun =
          next_begun c.args.policies.items c.loop-number.policies.items c.loop-number.channels.items c.push.new.self.items
          c.args.dies.now.items c.in_ok-own.own.items c.remove-policy.result c.in_ok-channel.channel
          (λ policy. g.P.Policy.told policy) (λ channel. channel.kept) g.D.Die.state c.args.bases.items c.remove-base.result
          c.args.limit c.args.head.now.shape.dies c.loop-number.number enough c.loop-number.invariant.policies
          c.remove-policy.ensures.value (omega (arith, c.loop-number.invariant.count)) c.in-Ok.ensures.items
          (next_of c.args.bases.items c.loop-number.bases.items c.loop-number.number c.remove-base.result
          c.loop-number.invariant.bases below c.remove-base.ensures.value)
          (own_is g.D.Die.state c.args.dies.now.items c.loop-number.dies.items c.in_ok-own.own.items c.args.head.now.shape.dies
          c.loop-number.number c.loop-number.invariant.left c.in_ok-own.ensures.taken)
          c.in_ok-channel.ensures.begun c.loop-number.invariant.begun;
      views =
          next_view c.args.policies.items c.loop-number.policies.items c.loop-number.channels.items c.push.new.self.items
          c.args.dies.now.items c.in_ok-own.own.items c.remove-policy.result c.in_ok-channel.channel
          (λ policy. g.P.Policy.told policy) (λ channel. channel.kept)
          (λ channel. g.P.Policy.told channel.policy) g.D.Die.state c.loop-number.number enough
          c.loop-number.invariant.policies c.remove-policy.ensures.value (omega (arith, c.loop-number.invariant.count))
          c.in-Ok.ensures.items c.loop-number.invariant.views c.in_ok-channel.ensures.view;
    }

pub returns-clause-starts : goal.returns-clause-starts
returns-clause-starts g c = λ saved image.
    stand_at_starts c.args.head.now saved c.args.bases.items c.args.limit (map g.D.Die.state c.args.dies.now.items)
    (map (λ policy. g.P.Policy.told policy) c.args.policies.items)
    (map (λ channel. channel.kept) c.loop-number.channels.items) image c.loop-number.invariant.begun
