use Rattle.std.proofs.Common.{length, sym, subst}
use Rattle.ssd_histories.specs.OpenLooks.{look_at}
use Rattle.chan_state.specs.ChannelState.{ChannelState}
use Rattle.chan_state.specs.Condemning.{MayCondemn}
use Rattle.chan_state.specs.Kept.{channel_of}
use Rattle.chan_state.proofs.LookSteps.{CondemnClauses, condemn_clauses, condemn_fitting}
use Rattle.chan_state.proofs.OpenLooks.{open_of_call}
use Rattle.chan_state.proofs.kept.Kept.condemn_if.Goals as goal

pub condemned-requires : goal.condemned-requires
condemned-requires g c =
    let may : MayCondemn (channel_of c.self.inside.tables c.self.inside.dies) c.args.tag c.args.at = subst (λ (s : ChannelState). MayCondemn s c.args.tag c.args.at) (sym c.self.view_is) c.requires in
    record { is_open = open_of_call c.args.tag (look_at c.self.inside.tables.looks c.args.at) may.is_open; not_uncorrectable = may.not_uncorrectable }

pub invariant_of-self : goal.invariant_of-self
invariant_of-self g c =
    condemn_fitting c.self.inside.tables c.self.inside.dies c.condemned.new.self c.args.tag c.args.at (length c.self.inside.infos.items) c.condemned.result c.self.invariant c.condemned.ensures.new

pub returns : goal.returns
returns g c =
    let was : ChannelState = channel_of c.self.inside.tables c.self.inside.dies in
    let new : ChannelState = channel_of c.condemned.new.self c.self.inside.dies in
    let may : MayCondemn was c.args.tag c.args.at = subst (λ (s : ChannelState). MayCondemn s c.args.tag c.args.at) (sym c.self.view_is) c.requires in
    let now : CondemnClauses c.args.self.now new c.args.tag c.args.at c.condemned.result =
    subst (λ (s : ChannelState). CondemnClauses s new c.args.tag c.args.at c.condemned.result) c.self.view_is
    (condemn_clauses c.self.inside.tables c.self.inside.dies c.condemned.new.self c.args.tag c.args.at (length c.self.inside.infos.items) c.condemned.result c.self.invariant may.is_open
    c.condemned.ensures.answer c.condemned.ensures.in_rows c.condemned.ensures.in_range c.condemned.ensures.new) in
    record { answer = now.answer_is; entry = now.entry; looks = now.looks; dies = now.dies; stands = now.stands }
