use Rattle.std.proofs.Common.{◌<◌, length, sym, subst, Option, Ok, refl, arith}
use Rattle.ssd_geo.specs.declared.policy_view.PolicyView.{PolicyView}
use Rattle.ssd_geo.specs.declared.shape.Shape.{Shape}
use Rattle.chan_state.specs.ChannelState.{ChannelState}
use Rattle.chan_state.specs.Collecting.{MovesView}
use Rattle.chan_state.specs.Kept.{AreFitting, channel_of}
use Rattle.chan_state.specs.declared.answers.EraseAnswer.TheVariants as answer
use Rattle.chan_state.proofs.EraseSteps.{EraseClauses, can_erase, erase_clauses, erase_fitting, live_left_clauses, no_victim_clauses, pinned_clauses}
use Rattle.chan_state.proofs.MovedViews.{same_moves}
use Rattle.chan_state.proofs.Taken.{roomier}
use Rattle.chan_state.proofs.kept.Kept.erase_if.Goals as goal

pub erase_victim-end-requires : goal.erase_victim-end-requires
erase_victim-end-requires g c =
    let fit : AreFitting c.make_room.new.self c.self.inside.dies (length c.self.inside.infos.items) = roomier c.self.inside.tables c.self.inside.dies c.make_room.new.self (length c.self.inside.infos.items) c.self.invariant c.make_room.ensures.same in
    record {
      spare = c.in_ok-make_room.ensures.spare;
      may = c.in-May.ensures.value;
      in_range = subst (λ (shape : Shape). c.args.sb < shape.superblocks) (sym fit.same_shape) (c.in-May.ensures.in_range refl);
      erases = can_erase c.make_room.new.self c.self.inside.dies c.args.sb (length c.self.inside.infos.items) fit c.in_ok-make_room.ensures.spare c.in-May.ensures.value.is_victim (c.in-May.ensures.in_range refl);
    }

pub tell-requires : goal.tell-requires
tell-requires g c =
    let fit : AreFitting c.make_room.new.self c.self.inside.dies (length c.self.inside.infos.items) = roomier c.self.inside.tables c.self.inside.dies c.make_room.new.self (length c.self.inside.infos.items) c.self.invariant c.make_room.ensures.same in
    omega (arith, c.in-May.ensures.in_range refl, fit.few_superblocks)

pub invariant_of-self : goal.invariant_of-self
invariant_of-self g c = roomier c.self.inside.tables c.self.inside.dies c.make_room.new.self (length c.self.inside.infos.items) c.self.invariant c.make_room.ensures.same

pub invariant_of-self-in-NotVictim : goal.invariant_of-self-in-NotVictim
invariant_of-self-in-NotVictim g c = roomier c.self.inside.tables c.self.inside.dies c.make_room.new.self (length c.self.inside.infos.items) c.self.invariant c.make_room.ensures.same

pub invariant_of-self-in-Live : goal.invariant_of-self-in-Live
invariant_of-self-in-Live g c = roomier c.self.inside.tables c.self.inside.dies c.make_room.new.self (length c.self.inside.infos.items) c.self.invariant c.make_room.ensures.same

pub invariant_of-self-in-Pinned : goal.invariant_of-self-in-Pinned
invariant_of-self-in-Pinned g c = roomier c.self.inside.tables c.self.inside.dies c.make_room.new.self (length c.self.inside.infos.items) c.self.invariant c.make_room.ensures.same

pub invariant_of-self-in-May : goal.invariant_of-self-in-May
invariant_of-self-in-May g c =
    erase_fitting c.self.inside.tables c.self.inside.dies c.make_room.new.self c.erase_victim-end.new.tables c.erase_victim-end.new.dies c.args.tag c.args.sb c.erase_victim-end.result (length c.self.inside.infos.items) c.self.invariant
    c.make_room.ensures.same c.in-May.ensures.value.is_victim c.erase_victim-end.ensures.entry c.erase_victim-end.ensures.erases

pub returns-in_err-make_room-clause-stands : goal.returns-in_err-make_room-clause-stands
returns-in_err-make_room-clause-stands g c =
    let was : Option PolicyView = g.P.Policy.told c.args.policy.now in
    subst (λ (s : ChannelState). MovesView s was (channel_of c.make_room.new.self c.self.inside.dies) was) c.self.view_is
    (same_moves c.self.inside.tables c.self.inside.dies c.make_room.new.self was was c.make_room.ensures.same refl)

pub returns-in-NotVictim : goal.returns-in-NotVictim
returns-in-NotVictim g c =
    let was : Option PolicyView = g.P.Policy.told c.args.policy.now in
    let new : ChannelState = channel_of c.make_room.new.self c.self.inside.dies in
    let now : EraseClauses c.args.self.now was new was c.args.tag c.args.sb (Ok answer.NotVictim) =
    subst (λ (s : ChannelState). EraseClauses s was new was c.args.tag c.args.sb (Ok answer.NotVictim)) c.self.view_is
    (no_victim_clauses c.self.inside.tables c.self.inside.dies c.make_room.new.self was c.args.tag c.args.sb c.in_ok-make_room.ensures.room c.make_room.ensures.same c.in-NotVictim.ensures.value) in
    record { room = now.room; ok = now.ok; faults = now.faults; view = now.view; err_view = now.err_view; stands = now.stands }

pub returns-in-Live : goal.returns-in-Live
returns-in-Live g c =
    let was : Option PolicyView = g.P.Policy.told c.args.policy.now in
    let new : ChannelState = channel_of c.make_room.new.self c.self.inside.dies in
    let now : EraseClauses c.args.self.now was new was c.args.tag c.args.sb (Ok (answer.Live c.in-Live.count)) =
    subst (λ (s : ChannelState). EraseClauses s was new was c.args.tag c.args.sb (Ok (answer.Live c.in-Live.count))) c.self.view_is
    (live_left_clauses c.self.inside.tables c.self.inside.dies c.make_room.new.self was c.args.tag c.args.sb c.in-Live.count c.in_ok-make_room.ensures.room c.make_room.ensures.same c.in-Live.ensures.value) in
    record { room = now.room; ok = now.ok; faults = now.faults; view = now.view; err_view = now.err_view; stands = now.stands }

pub returns-in-Pinned : goal.returns-in-Pinned
returns-in-Pinned g c =
    let was : Option PolicyView = g.P.Policy.told c.args.policy.now in
    let new : ChannelState = channel_of c.make_room.new.self c.self.inside.dies in
    let now : EraseClauses c.args.self.now was new was c.args.tag c.args.sb (Ok (answer.Pinned c.in-Pinned.count)) =
    subst (λ (s : ChannelState). EraseClauses s was new was c.args.tag c.args.sb (Ok (answer.Pinned c.in-Pinned.count))) c.self.view_is
    (pinned_clauses c.self.inside.tables c.self.inside.dies c.make_room.new.self was c.args.tag c.args.sb c.in-Pinned.count c.in_ok-make_room.ensures.room c.make_room.ensures.same c.in-Pinned.ensures.value) in
    record { room = now.room; ok = now.ok; faults = now.faults; view = now.view; err_view = now.err_view; stands = now.stands }

pub returns-in-May : goal.returns-in-May
returns-in-May g c =
    let was : Option PolicyView = g.P.Policy.told c.args.policy.now in
    let then : Option PolicyView = g.P.Policy.told c.tell.new.policy in
    let new : ChannelState = channel_of c.erase_victim-end.new.tables c.erase_victim-end.new.dies in
    let now : EraseClauses c.args.self.now was new then c.args.tag c.args.sb (Ok c.answer_of_erase.result) =
    subst (λ (s : ChannelState). EraseClauses s was new then c.args.tag c.args.sb (Ok c.answer_of_erase.result)) c.self.view_is
    (erase_clauses c.self.inside.tables c.self.inside.dies c.make_room.new.self c.erase_victim-end.new.tables c.erase_victim-end.new.dies was then c.args.tag c.args.sb c.erase_victim-end.result c.answer_of_erase.result (length c.self.inside.infos.items)
    c.self.invariant c.in_ok-make_room.ensures.room c.make_room.ensures.same c.in-May.ensures.value (c.in-May.ensures.in_range refl)
    c.erase_victim-end.ensures.entry c.erase_victim-end.ensures.erases c.tell.ensures c.answer_of_erase.ensures) in
    record { room = now.room; ok = now.ok; faults = now.faults; view = now.view; err_view = now.err_view; stands = now.stands }
