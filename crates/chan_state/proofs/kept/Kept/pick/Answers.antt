use Rattle.std.proofs.Common.{◌≡◌, ◌<◌, List, length, ap, ◌∙◌, sym, subst, Option, Ok, refl, rules, arith}
use Rattle.std.proofs.lemmas.List.{with_items_is}
use Rattle.std.specs.List.{length_refill}
use Rattle.std.specs.Vec.{with_items}
use Rattle.ssd_geo.specs.declared.policy_view.PolicyView.{PolicyView}
use Rattle.ssd_geo.specs.declared.superblock.SbInfo.{SbInfo}
use Rattle.ssd_histories.specs.Policies.{count_of_candidates}
use Rattle.chan_tables.specs.TablesState.{table_of}
use Rattle.chan_state.specs.ChannelState.{ChannelState}
use Rattle.chan_state.specs.Collecting.{MovesView}
use Rattle.chan_state.specs.Kept.{AreFitting, channel_of}
use Rattle.chan_state.specs.declared.answers.PickAnswer.TheVariants as answer
use Rattle.chan_state.proofs.MovedViews.{same_moves}
use Rattle.chan_state.proofs.PickSteps.{IsSealedOne, PickClauses, busy_clauses, no_garbage_clauses, none_free_clauses, picked_allowed, picked_clauses, picked_fitting, table_size}
use Rattle.chan_state.proofs.Taken.{recounted, roomier}
use Rattle.chan_state.proofs.kept.Kept.pick.Goals as goal

pub pick_room-requires : goal.pick_room-requires
pick_room-requires g c =
    let fit : AreFitting c.make_room.new.self c.self.inside.dies (length c.self.inside.infos.items) = roomier c.self.inside.tables c.self.inside.dies c.make_room.new.self (length c.self.inside.infos.items) c.self.invariant c.make_room.ensures.same in
    ap length c.deref_mut.ensures.value ∙ fit.items_count

pub invariant_of-self : goal.invariant_of-self
invariant_of-self g c = roomier c.self.inside.tables c.self.inside.dies c.make_room.new.self (length c.self.inside.infos.items) c.self.invariant c.make_room.ensures.same

pub invariant_of-self-in-Busy : goal.invariant_of-self-in-Busy
invariant_of-self-in-Busy g c =
    let full : c.self.inside.infos.len ≡ length c.self.inside.infos.items = search rules in
    let many : length (with_items c.self.inside.infos c.pick_room.new.infos).items ≡ length c.self.inside.infos.items =
    sym (length_refill c.self.inside.infos.len c.self.inside.infos.items c.pick_room.new.infos full) ∙ full in
    recounted c.make_room.new.self c.self.inside.dies (length c.self.inside.infos.items) (length (with_items c.self.inside.infos c.pick_room.new.infos).items) many
    (roomier c.self.inside.tables c.self.inside.dies c.make_room.new.self (length c.self.inside.infos.items) c.self.invariant c.make_room.ensures.same)

pub invariant_of-self-in-ReadOnly : goal.invariant_of-self-in-ReadOnly
invariant_of-self-in-ReadOnly g c =
    let full : c.self.inside.infos.len ≡ length c.self.inside.infos.items = search rules in
    let many : length (with_items c.self.inside.infos c.pick_room.new.infos).items ≡ length c.self.inside.infos.items =
    sym (length_refill c.self.inside.infos.len c.self.inside.infos.items c.pick_room.new.infos full) ∙ full in
    recounted c.make_room.new.self c.self.inside.dies (length c.self.inside.infos.items) (length (with_items c.self.inside.infos c.pick_room.new.infos).items) many
    (roomier c.self.inside.tables c.self.inside.dies c.make_room.new.self (length c.self.inside.infos.items) c.self.invariant c.make_room.ensures.same)

pub invariant_of-self-in-NoGarbage : goal.invariant_of-self-in-NoGarbage
invariant_of-self-in-NoGarbage g c =
    let full : c.self.inside.infos.len ≡ length c.self.inside.infos.items = search rules in
    let many : length (with_items c.self.inside.infos c.pick_room.new.infos).items ≡ length c.self.inside.infos.items =
    sym (length_refill c.self.inside.infos.len c.self.inside.infos.items c.pick_room.new.infos full) ∙ full in
    recounted c.make_room.new.self c.self.inside.dies (length c.self.inside.infos.items) (length (with_items c.self.inside.infos c.pick_room.new.infos).items) many
    (roomier c.self.inside.tables c.self.inside.dies c.make_room.new.self (length c.self.inside.infos.items) c.self.invariant c.make_room.ensures.same)

pub returns-in_err-make_room-clause-stands : goal.returns-in_err-make_room-clause-stands
returns-in_err-make_room-clause-stands g c =
    let was : Option PolicyView = g.P.Policy.told c.args.policy.now in
    subst (λ (s : ChannelState). MovesView s was (channel_of c.make_room.new.self c.self.inside.dies) was) c.self.view_is
    (same_moves c.self.inside.tables c.self.inside.dies c.make_room.new.self was was c.make_room.ensures.same refl)

pub returns-in-Busy : goal.returns-in-Busy
returns-in-Busy g c =
    let was : Option PolicyView = g.P.Policy.told c.args.policy.now in
    let new : ChannelState = channel_of c.make_room.new.self c.self.inside.dies in
    let now : PickClauses c.args.self.now was new was c.args.tag (Ok (answer.Busy c.in-Busy.sb)) =
    subst (λ (s : ChannelState). PickClauses s was new was c.args.tag (Ok (answer.Busy c.in-Busy.sb))) c.self.view_is
    (busy_clauses c.self.inside.tables c.self.inside.dies c.make_room.new.self was c.args.tag c.in-Busy.sb c.in_ok-make_room.ensures.room c.make_room.ensures.same c.in-Busy.ensures.value) in
    record { room = now.room; ok = now.ok; choice = now.choice; view = now.view; err = now.err; err_view = now.err_view; dies = now.dies; stands = now.stands }

pub returns-in-ReadOnly : goal.returns-in-ReadOnly
returns-in-ReadOnly g c =
    let was : Option PolicyView = g.P.Policy.told c.args.policy.now in
    let new : ChannelState = channel_of c.make_room.new.self c.self.inside.dies in
    let now : PickClauses c.args.self.now was new was c.args.tag (Ok answer.ReadOnly) =
    subst (λ (s : ChannelState). PickClauses s was new was c.args.tag (Ok answer.ReadOnly)) c.self.view_is
    (none_free_clauses c.self.inside.tables c.self.inside.dies c.make_room.new.self was c.args.tag c.in_ok-make_room.ensures.room c.make_room.ensures.same c.in-ReadOnly.ensures.value) in
    record { room = now.room; ok = now.ok; choice = now.choice; view = now.view; err = now.err; err_view = now.err_view; dies = now.dies; stands = now.stands }

pub returns-in-NoGarbage : goal.returns-in-NoGarbage
returns-in-NoGarbage g c =
    let was : Option PolicyView = g.P.Policy.told c.args.policy.now in
    let new : ChannelState = channel_of c.make_room.new.self c.self.inside.dies in
    let now : PickClauses c.args.self.now was new was c.args.tag (Ok answer.NoGarbage) =
    subst (λ (s : ChannelState). PickClauses s was new was c.args.tag (Ok answer.NoGarbage)) c.self.view_is
    (no_garbage_clauses c.self.inside.tables c.self.inside.dies c.make_room.new.self was c.args.tag c.in_ok-make_room.ensures.room c.make_room.ensures.same c.in-NoGarbage.ensures.value) in
    record { room = now.room; ok = now.ok; choice = now.choice; view = now.view; err = now.err; err_view = now.err_view; dies = now.dies; stands = now.stands }

pub choose-sb-requires : goal.choose-sb-requires
choose-sb-requires g c =
    let fit : AreFitting c.make_room.new.self c.self.inside.dies (length c.self.inside.infos.items) = roomier c.self.inside.tables c.self.inside.dies c.make_room.new.self (length c.self.inside.infos.items) c.self.invariant c.make_room.ensures.same in
    let full : c.self.inside.infos.len ≡ length c.self.inside.infos.items = search rules in
    let filled : c.pick_room.new.infos ≡ table_of c.make_room.new.self = c.in-Candidates.ensures.table refl in
    let size : length c.pick_room.new.infos ≡ c.self.inside.infos.len = ap length filled ∙ table_size c.make_room.new.self ∙ fit.blocks_count ∙ sym fit.items_count ∙ sym full in
    let told : c.deref.result.now ≡ table_of c.make_room.new.self = c.deref.ensures.value ∙ with_items_is c.self.inside.infos c.pick_room.new.infos size ∙ filled in
    record {
      few = omega (arith, ap length told, table_size c.make_room.new.self, fit.blocks_count, fit.few_superblocks);
      some = subst (λ (table : List SbInfo). 0 < count_of_candidates table) (sym told) c.in-Candidates.ensures.value.2;
    }

pub picked-requires : goal.picked-requires
picked-requires g c =
    let fit : AreFitting c.make_room.new.self c.self.inside.dies (length c.self.inside.infos.items) = roomier c.self.inside.tables c.self.inside.dies c.make_room.new.self (length c.self.inside.infos.items) c.self.invariant c.make_room.ensures.same in
    let full : c.self.inside.infos.len ≡ length c.self.inside.infos.items = search rules in
    let filled : c.pick_room.new.infos ≡ table_of c.make_room.new.self = c.in-Candidates.ensures.table refl in
    let size : length c.pick_room.new.infos ≡ c.self.inside.infos.len = ap length filled ∙ table_size c.make_room.new.self ∙ fit.blocks_count ∙ sym fit.items_count ∙ sym full in
    let told : c.deref.result.now ≡ table_of c.make_room.new.self = c.deref.ensures.value ∙ with_items_is c.self.inside.infos c.pick_room.new.infos size ∙ filled in
    let allowed : IsSealedOne c.make_room.new.self c.choose-sb.result = picked_allowed c.make_room.new.self c.self.inside.dies c.deref.result.now c.choose-sb.result (length c.self.inside.infos.items) fit told c.choose-sb.ensures.candidate in
    record {
      spare = c.in_ok-make_room.ensures.spare;
      in_range = allowed.in_range;
      sealed = allowed.sealed;
      no_victim = c.in-Candidates.ensures.value.0;
    }

pub invariant_of-self-in-Candidates : goal.invariant_of-self-in-Candidates
invariant_of-self-in-Candidates g c =
    let fit : AreFitting c.make_room.new.self c.self.inside.dies (length c.self.inside.infos.items) = roomier c.self.inside.tables c.self.inside.dies c.make_room.new.self (length c.self.inside.infos.items) c.self.invariant c.make_room.ensures.same in
    let full : c.self.inside.infos.len ≡ length c.self.inside.infos.items = search rules in
    let filled : c.pick_room.new.infos ≡ table_of c.make_room.new.self = c.in-Candidates.ensures.table refl in
    let size : length c.pick_room.new.infos ≡ c.self.inside.infos.len = ap length filled ∙ table_size c.make_room.new.self ∙ fit.blocks_count ∙ sym fit.items_count ∙ sym full in
    let told : c.deref.result.now ≡ table_of c.make_room.new.self = c.deref.ensures.value ∙ with_items_is c.self.inside.infos c.pick_room.new.infos size ∙ filled in
    let many : (length (with_items c.self.inside.infos c.pick_room.new.infos).items) ≡ length c.self.inside.infos.items =
    sym (length_refill c.self.inside.infos.len c.self.inside.infos.items c.pick_room.new.infos full) ∙ full in
    recounted c.picked.new.self c.self.inside.dies (length c.self.inside.infos.items) (length (with_items c.self.inside.infos c.pick_room.new.infos).items) many
    (picked_fitting c.self.inside.tables c.self.inside.dies c.make_room.new.self c.picked.new.self c.deref.result.now c.args.tag c.choose-sb.result (length c.self.inside.infos.items) c.self.invariant c.make_room.ensures.same told
    c.choose-sb.ensures.candidate c.picked.ensures)

pub returns-in-Candidates : goal.returns-in-Candidates
returns-in-Candidates g c =
    let was : Option PolicyView = g.P.Policy.told c.args.policy.now in
    let then : Option PolicyView = g.P.Policy.told c.choose-sb.new.policy in
    let fit : AreFitting c.make_room.new.self c.self.inside.dies (length c.self.inside.infos.items) = roomier c.self.inside.tables c.self.inside.dies c.make_room.new.self (length c.self.inside.infos.items) c.self.invariant c.make_room.ensures.same in
    let full : c.self.inside.infos.len ≡ length c.self.inside.infos.items = search rules in
    let filled : c.pick_room.new.infos ≡ table_of c.make_room.new.self = c.in-Candidates.ensures.table refl in
    let size : length c.pick_room.new.infos ≡ c.self.inside.infos.len = ap length filled ∙ table_size c.make_room.new.self ∙ fit.blocks_count ∙ sym fit.items_count ∙ sym full in
    let told : c.deref.result.now ≡ table_of c.make_room.new.self = c.deref.ensures.value ∙ with_items_is c.self.inside.infos c.pick_room.new.infos size ∙ filled in
    let new : ChannelState = channel_of c.picked.new.self c.self.inside.dies in
    let now : PickClauses c.args.self.now was new then c.args.tag (Ok (answer.Picked c.choose-sb.result)) =
    subst (λ (s : ChannelState). PickClauses s was new then c.args.tag (Ok (answer.Picked c.choose-sb.result))) c.self.view_is
    (picked_clauses c.self.inside.tables c.self.inside.dies c.make_room.new.self c.picked.new.self was then c.deref.result.now c.args.tag c.choose-sb.result (length c.self.inside.infos.items) c.self.invariant c.in_ok-make_room.ensures.room c.make_room.ensures.same
    c.in-Candidates.ensures.value told c.choose-sb.ensures.candidate c.choose-sb.ensures.answer c.choose-sb.ensures.view c.picked.ensures) in
    record { room = now.room; ok = now.ok; choice = now.choice; view = now.view; err = now.err; err_view = now.err_view; dies = now.dies; stands = now.stands }
