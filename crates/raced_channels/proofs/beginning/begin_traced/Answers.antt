use Rattle.std.proofs.Common.{◌+◌, ◌*◌, ◌<◌, map, length, refl, ◌∙◌, arith}
use Rattle.blank_drive.proofs.BegunChannels.{gone, none_gone, one_more_channel}
use Rattle.saved_drive.proofs.MoreChannels.{next_of, own_is}
use Rattle.saved_drive.proofs.SavedChannels.{may_begin_at}
use Rattle.raced_channels.proofs.BegunTraced.{next_begun, none_begun}
use Rattle.raced_channels.proofs.beginning.begin_traced.Goals as goal

pub loop-number-init : goal.loop-number-init
loop-number-init g c = record {
  left = none_gone c.args.dies.now.items c.args.head.now.shape.dies;
  bases = refl;
  policies = refl;
  count = c.new-channels.ensures.len;
  begun =
      none_begun c.args.bases.items c.args.limit c.args.head.now.shape.dies (map g.D.Die.state c.args.dies.now.items) _ _
      c.new-channels.ensures.items;
}

pub start-requires : goal.start-requires
start-requires g c =
    let as_many = c.requires.image.1.as_many_bases in
    let below : c.loop-number.number < length c.args.bases.items = omega (arith, as_many, c.loop-number-test.true) in
    may_begin_at c.args.head.now c.args.bases.items (map g.D.Die.state c.args.dies.now.items) c.loop-number.number
    c.remove-base.result (map g.D.Die.state c.in_ok-own.own.items) c.args.limit (g.P.Policy.told c.remove-policy.result)
    c.requires.head c.requires.mounted c.requires.image c.loop-number-test.true
    (next_of c.args.bases.items c.loop-number.bases.items c.loop-number.number c.remove-base.result c.loop-number.invariant.bases
    below c.remove-base.ensures.value)
    (own_is g.D.Die.state c.args.dies.now.items c.loop-number.dies.items c.in_ok-own.own.items c.args.head.now.shape.dies
    c.loop-number.number c.loop-number.invariant.left c.in_ok-own.ensures.taken)
    c.requires.limit_low c.requires.limit_high

pub new-requires : goal.new-requires
new-requires g c =
    rw (c.in_ok-channel.ensures.view, c.of-beginning.ensures) (c.in_ok-channel.ensures.begun.stands g.J.Contents.contents)

pub loop-number-preserved : goal.loop-number-preserved
loop-number-preserved g c =
    let as_many = c.requires.image.1.as_many_bases in
    let below : c.loop-number.number < length c.args.bases.items = omega (arith, as_many, c.loop-number-test.true) in
    let enough : c.loop-number.number < length c.args.policies.items = omega (arith, c.requires.policies, c.loop-number-test.true) in
    record {
      left =
          gone c.args.dies.now.items c.take_first.new.dies.items c.loop-number.dies.items
          (c.loop-number.number * c.args.head.now.shape.dies) c.args.head.now.shape.dies
          ((c.loop-number.number + 1) * c.args.head.now.shape.dies) c.loop-number.invariant.left c.in_ok-own.ensures.left
          (one_more_channel c.args.head.now.shape.dies c.loop-number.number);
      bases =
          gone c.args.bases.items c.remove-base.new.self.items c.loop-number.bases.items c.loop-number.number 1
          (c.loop-number.number + 1) c.loop-number.invariant.bases c.remove-base.ensures.items refl;
      policies =
          gone c.args.policies.items c.remove-policy.new.self.items c.loop-number.policies.items c.loop-number.number 1
          (c.loop-number.number + 1) c.loop-number.invariant.policies c.remove-policy.ensures.items refl;
      count = omega (arith, c.in-Ok.ensures.len, c.loop-number.invariant.count);
      begun =
          next_begun c.args.policies.items c.loop-number.policies.items c.loop-number.channels.items c.push.new.self.items
          (map g.D.Die.state c.args.dies.now.items) (map g.D.Die.state c.in_ok-own.own.items) c.remove-policy.result c.new.result
          (λ policy. g.P.Policy.told policy) c.args.bases.items c.remove-base.result c.args.limit c.args.head.now.shape.dies
          c.loop-number.number enough c.loop-number.invariant.policies c.remove-policy.ensures.value
          (omega (arith, c.loop-number.invariant.count)) c.in-Ok.ensures.items
          (next_of c.args.bases.items c.loop-number.bases.items c.loop-number.number c.remove-base.result
          c.loop-number.invariant.bases below c.remove-base.ensures.value)
          (own_is g.D.Die.state c.args.dies.now.items c.loop-number.dies.items c.in_ok-own.own.items c.args.head.now.shape.dies
          c.loop-number.number c.loop-number.invariant.left c.in_ok-own.ensures.taken)
          (rw c.new.ensures.channel c.in_ok-channel.ensures.begun) (c.new.ensures.told ∙ c.in_ok-channel.ensures.view)
          (c.new.ensures.start ∙ c.of-beginning.ensures) c.loop-number.invariant.begun;
    }
