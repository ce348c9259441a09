use Rattle.std.proofs.Common.{◌<◌, length, sym, subst}
use Rattle.chan_state.specs.ChannelState.{ChannelState}
use Rattle.chan_state.specs.Kept.{channel_of}
use Rattle.chan_state.proofs.LookSteps.{TrimClauses, trim_clauses, trim_fitting}
use Rattle.chan_state.proofs.kept.Kept.trim.Goals as goal

pub invariant_of-self : goal.invariant_of-self
invariant_of-self g c =
    trim_fitting c.self.inside.tables c.self.inside.dies c.trimmed.new.self c.args.tag c.args.row (length c.self.inside.infos.items) c.trimmed.result c.self.invariant c.trimmed.ensures.ok c.trimmed.ensures.err

pub returns : goal.returns
returns g c =
    let was : ChannelState = channel_of c.self.inside.tables c.self.inside.dies in
    let new : ChannelState = channel_of c.trimmed.new.self c.self.inside.dies in
    let low : c.args.row < c.self.inside.tables.shape.rows = subst (λ (s : ChannelState). c.args.row < s.shape.rows) (sym c.self.view_is) c.requires in
    let now : TrimClauses c.args.self.now new c.args.tag c.args.row c.trimmed.result =
    subst (λ (s : ChannelState). TrimClauses s new c.args.tag c.args.row c.trimmed.result) c.self.view_is
    (trim_clauses c.self.inside.tables c.self.inside.dies c.trimmed.new.self c.args.tag c.args.row (length c.self.inside.infos.items) c.trimmed.result c.self.invariant low c.trimmed.ensures.room c.trimmed.ensures.ok c.trimmed.ensures.err) in
    record { room = now.room; ok = now.ok; err = now.err; dies = now.dies; stands = now.stands }
