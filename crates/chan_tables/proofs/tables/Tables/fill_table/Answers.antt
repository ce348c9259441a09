use Rattle.std.proofs.Common.{◌≡◌, ℕ, subst}
use Rattle.ssd_histories.specs.Policies.{table_in}
use Rattle.chan_tables.proofs.FilledTables.{no_live_first, no_pins_first, table_filled}
use Rattle.chan_tables.proofs.tables.Tables.fill_table.Goals as goal

pub add_live-requires-clause-none : goal.add_live-requires-clause-none
add_live-requires-clause-none c =
    no_live_first c.slots.result c.self.inside.blocks.blocks c.fill_states.new.infos c.fill_states.ensures

pub add_pins-requires : goal.add_pins-requires
add_pins-requires c =
    record { none = no_pins_first c.slots.result c.self.inside.blocks.blocks c.self.inside.rows.rows c.fill_states.new.infos c.add_live.new.infos c.fill_states.ensures c.add_live.ensures }

pub returns : goal.returns
returns c =
    let was = c.self.inside in
    let filled : c.add_pins.new.infos ≡ table_in c.slots.result was.blocks.blocks was.rows.rows was.looks =
    table_filled c.slots.result was.blocks.blocks was.rows.rows was.looks c.fill_states.new.infos c.add_live.new.infos c.add_pins.new.infos c.fill_states.ensures c.add_live.ensures c.add_pins.ensures in
    rw (← c.self.view_is) (subst (λ (n : ℕ). c.add_pins.new.infos ≡ table_in n was.blocks.blocks was.rows.rows was.looks) c.slots.ensures filled)
