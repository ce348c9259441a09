use Rattle.std.proofs.Common.{[], ◌∷◌, map, sym, subst}
use Rattle.ssd_geo.specs.declared.base.ChannelBase.{ChannelBase}
use Rattle.die_model.specs.Listed.{listed_state}
use Rattle.die_model.specs.SimState.{state_of}
use Rattle.chan_state.specs.Starting.{MayBegin}
use Rattle.room_tests.proofs.SmallStart.{small_may_begin}
use Rattle.room_tests.proofs.channels.begun_with.Goals as goal

pub start-requires : goal.start-requires
start-requires g c =
    let state = listed_state state_of in
    let view = g.P.Policy.told c.args.policy in
    subst (λ items. MayBegin c.in_ok-base.base c.args.limit (map state items) view) (sym c.in_ok-dies.ensures)
    (subst
    (λ (base : ChannelBase). MayBegin base c.args.limit
    (state c.in_ok-zero.zero ∷ state c.in_ok-one.one ∷ state c.in_ok-two.two ∷ []) view) (sym c.in_ok-base.ensures)
    (small_may_begin c.in_ok-shape.shape c.args.wrong.now.weak.now (state c.in_ok-zero.zero) (state c.in_ok-one.one)
    (state c.in_ok-two.two) c.args.limit view c.in_ok-shape.ensures.sizes c.requires.weak
    (record { first_is = c.in_ok-zero.ensures; second_is = c.in_ok-one.ensures; third_is = c.in_ok-two.ensures }) c.requires.low
    c.requires.high))
