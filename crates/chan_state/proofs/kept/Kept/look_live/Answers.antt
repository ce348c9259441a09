use Rattle.std.proofs.Common.{length, subst}
use Rattle.chan_state.specs.ChannelState.{ChannelState}
use Rattle.chan_state.specs.Kept.{channel_of}
use Rattle.chan_state.proofs.LookSteps.{LiveClauses, live_clauses, live_fitting}
use Rattle.chan_state.proofs.kept.Kept.look_live.Goals as goal

pub invariant_of-self : goal.invariant_of-self
invariant_of-self g c =
    live_fitting c.self.inside.tables c.self.inside.dies c.look_live.new.self c.args.tag c.args.sb (length c.self.inside.infos.items) c.look_live.result c.self.invariant c.look_live.ensures.ok c.look_live.ensures.err

pub returns : goal.returns
returns g c =
    let new : ChannelState = channel_of c.look_live.new.self c.self.inside.dies in
    let now : LiveClauses c.args.self.now new c.args.tag c.args.sb c.look_live.result =
    subst (λ (s : ChannelState). LiveClauses s new c.args.tag c.args.sb c.look_live.result) c.self.view_is
    (live_clauses c.self.inside.tables c.self.inside.dies c.look_live.new.self c.args.tag c.args.sb (length c.self.inside.infos.items) c.look_live.result c.self.invariant
    c.look_live.ensures.room c.look_live.ensures.ok c.look_live.ensures.is_first c.look_live.ensures.err) in
    record { room = now.room; ok = now.ok; err = now.err; dies = now.dies; stands = now.stands }
