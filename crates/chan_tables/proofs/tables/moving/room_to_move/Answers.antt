use Rattle.chan_tables.proofs.FreeBlocks.{no_room_answers}
use Rattle.std.proofs.Common.{refl, sym, ◌∙◌}
use Rattle.chan_tables.specs.Copying.{KeepsPage}
use Rattle.chan_tables.proofs.tables.moving.room_to_move.Goals as goal

pub returns-in-None-clause-value : goal.returns-in-None-clause-value
returns-in-None-clause-value c =
    let keeps : KeepsPage c.args.rows.now.rows c.args.look.now =
    sym c.row-row.ensures.value ∙ c.if-not-is_page_of.ensures.0 refl in
    no_room_answers c.args.blocks.now.slots c.args.blocks.now.blocks c.args.rows.now.rows c.args.look.now c.without_slot.result keeps (sym c.in-None.ensures.value) c.without_slot.ensures
