use Rattle.std.proofs.Common.{◌<◌, length, sym, subst}
use Rattle.chan_state.specs.ChannelState.{ChannelState}
use Rattle.chan_state.specs.Kept.{channel_of}
use Rattle.chan_state.proofs.LookSteps.{LookClauses, look_clauses, look_fitting}
use Rattle.chan_state.proofs.kept.Kept.look.Goals as goal

pub invariant_of-self : goal.invariant_of-self
invariant_of-self g c =
    look_fitting c.self.inside.tables c.self.inside.dies c.look.new.self c.args.tag c.args.row (length c.self.inside.infos.items) c.look.result c.self.invariant c.look.ensures.ok c.look.ensures.err

pub returns : goal.returns
returns g c =
    let was : ChannelState = channel_of c.self.inside.tables c.self.inside.dies in
    let new : ChannelState = channel_of c.look.new.self c.self.inside.dies in
    let low : c.args.row < c.self.inside.tables.shape.rows = subst (λ (s : ChannelState). c.args.row < s.shape.rows) (sym c.self.view_is) c.requires in
    let all : LookClauses was new c.args.tag c.args.row c.look.result =
    look_clauses c.self.inside.tables c.self.inside.dies c.look.new.self c.args.tag c.args.row (length c.self.inside.infos.items) c.look.result c.self.invariant low
    c.look.ensures.room c.look.ensures.ok c.look.ensures.in_range c.look.ensures.is_first c.look.ensures.err in
    let now : LookClauses c.args.self.now new c.args.tag c.args.row c.look.result = subst (λ (s : ChannelState). LookClauses s new c.args.tag c.args.row c.look.result) c.self.view_is all in
    record { room = now.room; ok = now.ok; err = now.err; dies = now.dies; stands = now.stands }
