use Rattle.std.proofs.Common.{length, sym, subst}
use Rattle.ssd_histories.specs.OpenLooks.{look_at}
use Rattle.ssd_geo.specs.declared.kind.Kind.{Kind}
use Rattle.chan_state.specs.ChannelState.{ChannelState}
use Rattle.chan_state.specs.Kept.{channel_of}
use Rattle.chan_state.specs.Steps.{IsOpen}
use Rattle.chan_state.proofs.LookSteps.{LeaveClauses, exactly, leave_clauses}
use Rattle.chan_state.proofs.OpenLooks.{open_of_call}
use Rattle.chan_state.proofs.Told.{told_fitting}
use Rattle.chan_state.proofs.kept.Kept.leave.Goals as goal

pub left-requires : goal.left-requires
left-requires g c =
    open_of_call c.args.tag (look_at c.self.inside.tables.looks c.args.at) (subst (λ (s : ChannelState). IsOpen s c.args.tag c.args.at) (sym c.self.view_is) c.requires)

pub invariant_of-self : goal.invariant_of-self
invariant_of-self g c =
    told_fitting c.self.inside.tables c.self.inside.dies c.left.new.self c.args.tag (Kind.Leave c.args.at) (length c.self.inside.infos.items) c.self.invariant tt (exactly c.self.inside.tables c.left.new.self c.args.tag (Kind.Leave c.args.at) c.left.ensures)

pub returns : goal.returns
returns g c =
    let was : ChannelState = channel_of c.self.inside.tables c.self.inside.dies in
    let new : ChannelState = channel_of c.left.new.self c.self.inside.dies in
    let some : IsOpen was c.args.tag c.args.at = subst (λ (s : ChannelState). IsOpen s c.args.tag c.args.at) (sym c.self.view_is) c.requires in
    let now : LeaveClauses c.args.self.now new c.args.tag c.args.at =
    subst (λ (s : ChannelState). LeaveClauses s new c.args.tag c.args.at) c.self.view_is
    (leave_clauses c.self.inside.tables c.self.inside.dies c.left.new.self c.args.tag c.args.at (length c.self.inside.infos.items) c.self.invariant some c.left.ensures) in
    record { entry = now.entry; looks = now.looks; dies = now.dies; stands = now.stands }
