use Rattle.std.proofs.Common.{◌∙◌, ap, lit≤, map, subst, sym}
use Rattle.die_model.specs.SimState.{state_of}
use Rattle.chan_state.specs.Starting.{MayBegin}
use Rattle.ssd_geo.specs.declared.base.ChannelBase.{ChannelBase}
use Rattle.loaded_tests.proofs.LoadedStart.{has_begun, loaded_may_begin}
use Rattle.loaded_tests.proofs.loaded_channel.begun_with.Goals as goal

pub start-requires : goal.start-requires
start-requires g c =
    let view = g.P.Policy.told c.args.policy in
    subst (λ (base : ChannelBase). MayBegin base 4096 (map state_of c.in_ok-dies.dies.items) view) (sym c.in_ok-base.ensures)
    (loaded_may_begin c.args.shape c.args.weak.now c.requires.sizes c.requires.weak 4096 (lit≤ tt) (lit≤ tt) view _
    c.word_levels-levels.ensures (map state_of c.in_ok-dies.dies.items) c.in_ok-dies.ensures)

pub returns-clause-begun : goal.returns-clause-begun
returns-clause-begun g c =
    has_begun c.args.shape c.args.weak.now c.in_ok-base.base 4096 (map state_of c.in_ok-dies.dies.items)
    (g.P.Policy.told c.args.policy) (g.P.Policy.told c.in_ok-channel.channel.policy) c.in_ok-channel.channel.kept
    c.requires.sizes c.in_ok-base.ensures c.in_ok-channel.ensures.begun c.in_ok-channel.ensures.view

pub returns-clause-shape : goal.returns-clause-shape
returns-clause-shape g c =
    c.in_ok-channel.ensures.begun.shape_is ∙ ap (λ (base : ChannelBase). base.shape) c.in_ok-base.ensures
