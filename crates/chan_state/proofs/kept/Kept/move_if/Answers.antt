use Rattle.std.proofs.Common.{◌≡◌, length, sym, subst, true, false}
use Rattle.std.specs.Prelude.{IsTrue}
use Rattle.ssd_geo.specs.Coding.{word_bytes_in}
use Rattle.ssd_geo.specs.declared.shape.Shape.{Shape}
use Rattle.ssd_histories.specs.OpenLooks.{look_at}
use Rattle.ssd_histories.specs.Ranges.{has_slot}
use Rattle.chan_fits.specs.DiesFit.{AreDue}
use Rattle.chan_tables.specs.declared.rooms.MoveRoom.TheVariants as room
use Rattle.chan_state.specs.ChannelState.{ChannelState}
use Rattle.chan_state.specs.Copying.{MayMove}
use Rattle.chan_state.specs.Kept.{channel_of}
use Rattle.chan_state.specs.declared.answers.MoveAnswer.TheVariants as answer
use Rattle.chan_state.proofs.MoveSteps.{AsksMove, MoveClauses, changed_clauses, copy_clauses, copy_fitting, next_of_copy, stay_clauses, stay_fitting, told_move_fitting, worn_stay_clauses}
use Rattle.chan_state.proofs.OpenLooks.{open_of_call}
use Rattle.chan_state.proofs.kept.Kept.move_if.Goals as goal

pub move_room-requires : goal.move_room-requires
move_room-requires g c =
    let may : MayMove (channel_of c.self.inside.tables c.self.inside.dies) c.args.tag c.args.at = subst (λ (s : ChannelState). MayMove s c.args.tag c.args.at) (sym c.self.view_is) c.requires.may in
    open_of_call c.args.tag (look_at c.self.inside.tables.looks c.args.at) may.is_open

pub changed-requires : goal.changed-requires
changed-requires g c =
    let may : MayMove (channel_of c.self.inside.tables c.self.inside.dies) c.args.tag c.args.at = subst (λ (s : ChannelState). MayMove s c.args.tag c.args.at) (sym c.self.view_is) c.requires.may in
    record { «open» = open_of_call c.args.tag (look_at c.self.inside.tables.looks c.args.at) may.is_open; not_recovered = may.not_recovered }

pub stayed-requires : goal.stayed-requires
stayed-requires g c =
    let may : MayMove (channel_of c.self.inside.tables c.self.inside.dies) c.args.tag c.args.at = subst (λ (s : ChannelState). MayMove s c.args.tag c.args.at) (sym c.self.view_is) c.requires.may in
    record { «open» = open_of_call c.args.tag (look_at c.self.inside.tables.looks c.args.at) may.is_open; not_recovered = may.not_recovered }

pub stayed-requires-in-NoRoom : goal.stayed-requires-in-NoRoom
stayed-requires-in-NoRoom g c =
    let may : MayMove (channel_of c.self.inside.tables c.self.inside.dies) c.args.tag c.args.at = subst (λ (s : ChannelState). MayMove s c.args.tag c.args.at) (sym c.self.view_is) c.requires.may in
    record { «open» = open_of_call c.args.tag (look_at c.self.inside.tables.looks c.args.at) may.is_open; not_recovered = may.not_recovered }

pub copy_to-end-requires : goal.copy_to-end-requires
copy_to-end-requires g c =
    let may : MayMove (channel_of c.self.inside.tables c.self.inside.dies) c.args.tag c.args.at = subst (λ (s : ChannelState). MayMove s c.args.tag c.args.at) (sym c.self.view_is) c.requires.may in
    let asks : AsksMove c.self.inside.tables c.args.tag c.args.at (room.Slot c.in-Slot.slot) =
    record {
      some = may.is_open;
      is = c.in-Slot.ensures.value;
      low = c.move_room.ensures.in_rows;
      within = c.in-Slot.ensures.in_range;
    } in
    let word : length c.args.word.now ≡ word_bytes_in c.self.inside.tables.shape = subst (λ (s : ChannelState). length c.args.word.now ≡ word_bytes_in s.shape) (sym c.self.view_is) c.requires.word in
    record {
      «open» = open_of_call c.args.tag (look_at c.self.inside.tables.looks c.args.at) may.is_open;
      not_recovered = may.not_recovered;
      may = c.in-Slot.ensures.value;
      in_range = subst (λ (shape : Shape). IsTrue (has_slot shape c.in-Slot.slot)) (sym c.self.invariant.same_shape) (next_of_copy c.self.inside.tables c.args.tag c.args.at c.in-Slot.slot asks).in_range;
      due = subst (λ (shape : Shape). AreDue shape c.self.inside.tables.blocks c.self.inside.dies.dies) (sym c.self.invariant.same_shape) c.self.invariant.due;
      word = subst (λ (shape : Shape). length c.args.word.now ≡ word_bytes_in shape) (sym c.self.invariant.same_shape) word;
    }

pub invariant_of-self : goal.invariant_of-self
invariant_of-self g c = told_move_fitting c.self.inside.tables c.self.inside.dies c.changed.new.self c.args.tag c.args.at c.in-Changed.row (length c.self.inside.infos.items) c.self.invariant c.changed.ensures

pub invariant_of-self-in-ReadOnly : goal.invariant_of-self-in-ReadOnly
invariant_of-self-in-ReadOnly g c = stay_fitting c.self.inside.tables c.self.inside.dies c.stayed.new.self c.args.tag c.args.at true (length c.self.inside.infos.items) c.self.invariant c.stayed.ensures

pub invariant_of-self-in-NoRoom : goal.invariant_of-self-in-NoRoom
invariant_of-self-in-NoRoom g c = stay_fitting c.self.inside.tables c.self.inside.dies c.stayed-in-NoRoom.new.self c.args.tag c.args.at false (length c.self.inside.infos.items) c.self.invariant c.stayed-in-NoRoom.ensures

pub invariant_of-self-in-Slot : goal.invariant_of-self-in-Slot
invariant_of-self-in-Slot g c =
    let may : MayMove (channel_of c.self.inside.tables c.self.inside.dies) c.args.tag c.args.at = subst (λ (s : ChannelState). MayMove s c.args.tag c.args.at) (sym c.self.view_is) c.requires.may in
    let asks : AsksMove c.self.inside.tables c.args.tag c.args.at (room.Slot c.in-Slot.slot) =
    record {
      some = may.is_open;
      is = c.in-Slot.ensures.value;
      low = c.move_room.ensures.in_rows;
      within = c.in-Slot.ensures.in_range;
    } in
    copy_fitting c.self.inside.tables c.self.inside.dies c.copy_to-end.new.tables c.copy_to-end.new.dies c.args.tag c.args.at c.in-Slot.slot c.args.word.now c.copy_to-end.result (length c.self.inside.infos.items) c.self.invariant asks
    c.copy_to-end.ensures.entry c.copy_to-end.ensures.programs

pub returns-in-Changed : goal.returns-in-Changed
returns-in-Changed g c =
    let new : ChannelState = channel_of c.changed.new.self c.self.inside.dies in
    let may : MayMove (channel_of c.self.inside.tables c.self.inside.dies) c.args.tag c.args.at = subst (λ (s : ChannelState). MayMove s c.args.tag c.args.at) (sym c.self.view_is) c.requires.may in
    let asks : AsksMove c.self.inside.tables c.args.tag c.args.at (room.Changed c.in-Changed.row) =
    record {
      some = may.is_open;
      is = c.in-Changed.ensures.value;
      low = c.move_room.ensures.in_rows;
      within = c.in-Changed.ensures.in_range;
    } in
    let now : MoveClauses c.args.self.now new c.args.tag c.args.at c.args.word.now (answer.Changed c.in-Changed.row) =
    subst (λ (s : ChannelState). MoveClauses s new c.args.tag c.args.at c.args.word.now (answer.Changed c.in-Changed.row)) c.self.view_is
    (changed_clauses c.self.inside.tables c.self.inside.dies c.changed.new.self c.args.tag c.args.at c.args.word.now c.in-Changed.row (length c.self.inside.infos.items) c.self.invariant asks c.changed.ensures) in
    record { answer = now.answer_is; entry = now.entry; looks = now.looks; faults = now.faults; stands = now.stands }

pub returns-in-ReadOnly : goal.returns-in-ReadOnly
returns-in-ReadOnly g c =
    let new : ChannelState = channel_of c.stayed.new.self c.self.inside.dies in
    let may : MayMove (channel_of c.self.inside.tables c.self.inside.dies) c.args.tag c.args.at = subst (λ (s : ChannelState). MayMove s c.args.tag c.args.at) (sym c.self.view_is) c.requires.may in
    let asks : AsksMove c.self.inside.tables c.args.tag c.args.at room.ReadOnly =
    record {
      some = may.is_open;
      is = c.in-ReadOnly.ensures.value;
      low = c.move_room.ensures.in_rows;
      within = c.in-ReadOnly.ensures.in_range;
    } in
    let now : MoveClauses c.args.self.now new c.args.tag c.args.at c.args.word.now answer.ReadOnly =
    subst (λ (s : ChannelState). MoveClauses s new c.args.tag c.args.at c.args.word.now answer.ReadOnly) c.self.view_is
    (worn_stay_clauses c.self.inside.tables c.self.inside.dies c.stayed.new.self c.args.tag c.args.at c.args.word.now (length c.self.inside.infos.items) c.self.invariant asks c.stayed.ensures) in
    record { answer = now.answer_is; entry = now.entry; looks = now.looks; faults = now.faults; stands = now.stands }

pub returns-in-NoRoom : goal.returns-in-NoRoom
returns-in-NoRoom g c =
    let new : ChannelState = channel_of c.stayed-in-NoRoom.new.self c.self.inside.dies in
    let may : MayMove (channel_of c.self.inside.tables c.self.inside.dies) c.args.tag c.args.at = subst (λ (s : ChannelState). MayMove s c.args.tag c.args.at) (sym c.self.view_is) c.requires.may in
    let asks : AsksMove c.self.inside.tables c.args.tag c.args.at room.NoRoom =
    record {
      some = may.is_open;
      is = c.in-NoRoom.ensures.value;
      low = c.move_room.ensures.in_rows;
      within = c.in-NoRoom.ensures.in_range;
    } in
    let now : MoveClauses c.args.self.now new c.args.tag c.args.at c.args.word.now answer.NoRoom =
    subst (λ (s : ChannelState). MoveClauses s new c.args.tag c.args.at c.args.word.now answer.NoRoom) c.self.view_is
    (stay_clauses c.self.inside.tables c.self.inside.dies c.stayed-in-NoRoom.new.self c.args.tag c.args.at c.args.word.now (length c.self.inside.infos.items) c.self.invariant asks c.stayed-in-NoRoom.ensures) in
    record { answer = now.answer_is; entry = now.entry; looks = now.looks; faults = now.faults; stands = now.stands }

pub returns-in-Slot : goal.returns-in-Slot
returns-in-Slot g c =
    let new : ChannelState = channel_of c.copy_to-end.new.tables c.copy_to-end.new.dies in
    let may : MayMove (channel_of c.self.inside.tables c.self.inside.dies) c.args.tag c.args.at = subst (λ (s : ChannelState). MayMove s c.args.tag c.args.at) (sym c.self.view_is) c.requires.may in
    let asks : AsksMove c.self.inside.tables c.args.tag c.args.at (room.Slot c.in-Slot.slot) =
    record {
      some = may.is_open;
      is = c.in-Slot.ensures.value;
      low = c.move_room.ensures.in_rows;
      within = c.in-Slot.ensures.in_range;
    } in
    let now : MoveClauses c.args.self.now new c.args.tag c.args.at c.args.word.now c.answer_of.result =
    subst (λ (s : ChannelState). MoveClauses s new c.args.tag c.args.at c.args.word.now c.answer_of.result) c.self.view_is
    (copy_clauses c.self.inside.tables c.self.inside.dies c.copy_to-end.new.tables c.copy_to-end.new.dies c.args.tag c.args.at c.in-Slot.slot c.args.word.now c.copy_to-end.result c.answer_of.result (length c.self.inside.infos.items) c.self.invariant asks
    c.copy_to-end.ensures.entry c.copy_to-end.ensures.programs c.answer_of.ensures) in
    record { answer = now.answer_is; entry = now.entry; looks = now.looks; faults = now.faults; stands = now.stands }
