use Rattle.std.proofs.Common.{◌≡◌, ◌<◌, length, ap, ◌∙◌, sym, subst, Ok, rules, true, false}
use Rattle.std.specs.List.{length_refill}
use Rattle.std.specs.Prelude.{IsTrue}
use Rattle.std.specs.Vec.{with_items}
use Rattle.ssd_geo.specs.Coding.{word_bytes_in}
use Rattle.ssd_geo.specs.declared.shape.Shape.{Shape}
use Rattle.ssd_histories.specs.Ranges.{has_slot}
use Rattle.chan_fits.specs.DiesFit.{AreDue}
use Rattle.chan_tables.specs.TablesState.{TablesState}
use Rattle.chan_state.specs.ChannelState.{ChannelState}
use Rattle.chan_state.specs.Kept.{AreFitting, channel_of}
use Rattle.chan_state.specs.Writing.{WritesFor}
use Rattle.chan_state.specs.declared.answers.WriteAnswer.TheVariants as answer
use Rattle.chan_state.proofs.LookSteps.{same_stands}
use Rattle.chan_state.proofs.Taken.{recounted, roomier}
use Rattle.chan_state.proofs.WriteSteps.{WriteClauses, full_clauses, need_clauses, read_only_clauses, refused_fitting, write_clauses, write_fitting}
use Rattle.chan_state.proofs.kept.Kept.write.Goals as goal

pub write_room-requires : goal.write_room-requires
write_room-requires g c =
    let fit : AreFitting c.make_room.new.self c.self.inside.dies (length c.self.inside.infos.items) = roomier c.self.inside.tables c.self.inside.dies c.make_room.new.self (length c.self.inside.infos.items) c.self.invariant c.make_room.ensures.same in
    ap length c.deref_mut.ensures.value ∙ fit.items_count

pub write_slot-end-requires : goal.write_slot-end-requires
write_slot-end-requires g c =
    let fit : AreFitting c.make_room.new.self c.self.inside.dies (length c.self.inside.infos.items) = roomier c.self.inside.tables c.self.inside.dies c.make_room.new.self (length c.self.inside.infos.items) c.self.invariant c.make_room.ensures.same in
    let low : c.args.row < c.self.inside.tables.shape.rows = subst (λ (s : ChannelState). c.args.row < s.shape.rows) (sym c.self.view_is) c.requires.row in
    let word : length c.args.word.now ≡ word_bytes_in c.self.inside.tables.shape = subst (λ (s : ChannelState). length c.args.word.now ≡ word_bytes_in s.shape) (sym c.self.view_is) c.requires.word in
    record {
      spare = c.in_ok-make_room.ensures.spare;
      row = subst (λ (t : TablesState). c.args.row < t.shape.rows) (sym c.make_room.ensures.same) low;
      room = c.in-Slot.ensures.0;
      next = c.in-Slot.ensures.1;
      in_range = subst (λ (shape : Shape). IsTrue (has_slot shape c.in-Slot.slot)) (sym fit.same_shape) c.in-Slot.ensures.2;
      due = subst (λ (shape : Shape). AreDue shape c.make_room.new.self.blocks c.self.inside.dies.dies) (sym fit.same_shape) fit.due;
      word = subst (λ (shape : Shape). length c.args.word.now ≡ word_bytes_in shape) (sym c.self.invariant.same_shape) word;
    }

pub invariant_of-self : goal.invariant_of-self
invariant_of-self g c = roomier c.self.inside.tables c.self.inside.dies c.make_room.new.self (length c.self.inside.infos.items) c.self.invariant c.make_room.ensures.same

pub invariant_of-self-in-Slot : goal.invariant_of-self-in-Slot
invariant_of-self-in-Slot g c =
    let full : c.self.inside.infos.len ≡ length c.self.inside.infos.items = search rules in
    let many : length (with_items c.self.inside.infos c.write_room.new.infos).items ≡ length c.self.inside.infos.items =
    sym (length_refill c.self.inside.infos.len c.self.inside.infos.items c.write_room.new.infos full) ∙ full in
    recounted c.write_slot-end.new.tables c.write_slot-end.new.dies (length c.self.inside.infos.items) (length (with_items c.self.inside.infos c.write_room.new.infos).items) many
    (write_fitting c.self.inside.tables c.self.inside.dies c.make_room.new.self c.write_slot-end.new.tables c.write_slot-end.new.dies c.args.tag c.args.row c.in-Slot.slot c.args.word.now c.write_slot-end.result (length c.self.inside.infos.items) c.self.invariant
    c.make_room.ensures.same (c.in-Slot.ensures.1, c.in-Slot.ensures.2) c.write_slot-end.ensures.entry c.write_slot-end.ensures.programs)

pub invariant_of-self-in-ReadOnly : goal.invariant_of-self-in-ReadOnly
invariant_of-self-in-ReadOnly g c =
    let full : c.self.inside.infos.len ≡ length c.self.inside.infos.items = search rules in
    let many : length (with_items c.self.inside.infos c.write_room.new.infos).items ≡ length c.self.inside.infos.items =
    sym (length_refill c.self.inside.infos.len c.self.inside.infos.items c.write_room.new.infos full) ∙ full in
    recounted c.refused.new.self c.self.inside.dies (length c.self.inside.infos.items) (length (with_items c.self.inside.infos c.write_room.new.infos).items) many
    (refused_fitting c.self.inside.tables c.self.inside.dies c.make_room.new.self c.refused.new.self c.args.tag c.args.row true (length c.self.inside.infos.items) c.self.invariant c.make_room.ensures.same c.refused.ensures)

pub invariant_of-self-in-Full : goal.invariant_of-self-in-Full
invariant_of-self-in-Full g c =
    let full : c.self.inside.infos.len ≡ length c.self.inside.infos.items = search rules in
    let many : length (with_items c.self.inside.infos c.write_room.new.infos).items ≡ length c.self.inside.infos.items =
    sym (length_refill c.self.inside.infos.len c.self.inside.infos.items c.write_room.new.infos full) ∙ full in
    recounted c.refused-in-Full.new.self c.self.inside.dies (length c.self.inside.infos.items) (length (with_items c.self.inside.infos c.write_room.new.infos).items) many
    (refused_fitting c.self.inside.tables c.self.inside.dies c.make_room.new.self c.refused-in-Full.new.self c.args.tag c.args.row false (length c.self.inside.infos.items) c.self.invariant c.make_room.ensures.same c.refused-in-Full.ensures)

pub invariant_of-self-in-NeedRoom : goal.invariant_of-self-in-NeedRoom
invariant_of-self-in-NeedRoom g c =
    let full : c.self.inside.infos.len ≡ length c.self.inside.infos.items = search rules in
    let many : length (with_items c.self.inside.infos c.write_room.new.infos).items ≡ length c.self.inside.infos.items =
    sym (length_refill c.self.inside.infos.len c.self.inside.infos.items c.write_room.new.infos full) ∙ full in
    recounted c.make_room.new.self c.self.inside.dies (length c.self.inside.infos.items) (length (with_items c.self.inside.infos c.write_room.new.infos).items) many
    (roomier c.self.inside.tables c.self.inside.dies c.make_room.new.self (length c.self.inside.infos.items) c.self.invariant c.make_room.ensures.same)

pub returns-in_err-make_room-clause-stands : goal.returns-in_err-make_room-clause-stands
returns-in_err-make_room-clause-stands g c =
    subst (λ (s : ChannelState). WritesFor s (channel_of c.make_room.new.self c.self.inside.dies) c.args.tag c.args.row c.args.word.now) c.self.view_is
    (λ view start contents stands is. same_stands c.self.inside.tables c.self.inside.dies c.make_room.new.self c.make_room.ensures.same view start contents stands)

pub returns-in-Slot : goal.returns-in-Slot
returns-in-Slot g c =
    let low : c.args.row < c.self.inside.tables.shape.rows = subst (λ (s : ChannelState). c.args.row < s.shape.rows) (sym c.self.view_is) c.requires.row in
    let new : ChannelState = channel_of c.write_slot-end.new.tables c.write_slot-end.new.dies in
    let now : WriteClauses c.args.self.now new c.args.tag c.args.row c.args.word.now (Ok c.answer_of.result) =
    subst (λ (s : ChannelState). WriteClauses s new c.args.tag c.args.row c.args.word.now (Ok c.answer_of.result)) c.self.view_is
    (write_clauses c.self.inside.tables c.self.inside.dies c.make_room.new.self c.write_slot-end.new.tables c.write_slot-end.new.dies c.args.tag c.args.row c.in-Slot.slot c.args.word.now c.write_slot-end.result c.answer_of.result (length c.self.inside.infos.items) c.self.invariant low c.in_ok-make_room.ensures.room c.make_room.ensures.same c.in-Slot.ensures c.write_slot-end.ensures.entry c.write_slot-end.ensures.programs c.answer_of.ensures) in
    record { room = now.room; ok = now.ok; faults = now.faults; stands = now.stands }

pub returns-in-ReadOnly : goal.returns-in-ReadOnly
returns-in-ReadOnly g c =
    let low : c.args.row < c.self.inside.tables.shape.rows = subst (λ (s : ChannelState). c.args.row < s.shape.rows) (sym c.self.view_is) c.requires.row in
    let new : ChannelState = channel_of c.refused.new.self c.self.inside.dies in
    let now : WriteClauses c.args.self.now new c.args.tag c.args.row c.args.word.now (Ok answer.ReadOnly) =
    subst (λ (s : ChannelState). WriteClauses s new c.args.tag c.args.row c.args.word.now (Ok answer.ReadOnly)) c.self.view_is
    (read_only_clauses c.self.inside.tables c.self.inside.dies c.make_room.new.self c.refused.new.self c.args.tag c.args.row c.args.word.now (length c.self.inside.infos.items) c.self.invariant low c.in_ok-make_room.ensures.room c.make_room.ensures.same c.refused.ensures c.in-ReadOnly.ensures) in
    record { room = now.room; ok = now.ok; faults = now.faults; stands = now.stands }

pub returns-in-Full : goal.returns-in-Full
returns-in-Full g c =
    let low : c.args.row < c.self.inside.tables.shape.rows = subst (λ (s : ChannelState). c.args.row < s.shape.rows) (sym c.self.view_is) c.requires.row in
    let new : ChannelState = channel_of c.refused-in-Full.new.self c.self.inside.dies in
    let now : WriteClauses c.args.self.now new c.args.tag c.args.row c.args.word.now (Ok answer.Full) =
    subst (λ (s : ChannelState). WriteClauses s new c.args.tag c.args.row c.args.word.now (Ok answer.Full)) c.self.view_is
    (full_clauses c.self.inside.tables c.self.inside.dies c.make_room.new.self c.refused-in-Full.new.self c.args.tag c.args.row c.args.word.now (length c.self.inside.infos.items) c.self.invariant low c.in_ok-make_room.ensures.room c.make_room.ensures.same c.refused-in-Full.ensures c.in-Full.ensures) in
    record { room = now.room; ok = now.ok; faults = now.faults; stands = now.stands }

pub returns-in-NeedRoom : goal.returns-in-NeedRoom
returns-in-NeedRoom g c =
    let low : c.args.row < c.self.inside.tables.shape.rows = subst (λ (s : ChannelState). c.args.row < s.shape.rows) (sym c.self.view_is) c.requires.row in
    let new : ChannelState = channel_of c.make_room.new.self c.self.inside.dies in
    let now : WriteClauses c.args.self.now new c.args.tag c.args.row c.args.word.now (Ok answer.NeedRoom) =
    subst (λ (s : ChannelState). WriteClauses s new c.args.tag c.args.row c.args.word.now (Ok answer.NeedRoom)) c.self.view_is
    (need_clauses c.self.inside.tables c.self.inside.dies c.make_room.new.self c.args.tag c.args.row c.args.word.now c.in_ok-make_room.ensures.room c.make_room.ensures.same c.in-NeedRoom.ensures) in
    record { room = now.room; ok = now.ok; faults = now.faults; stands = now.stands }
