-- The slot for a copy of a look's page is the next one. The tables that contracts see, by their parts.
use Rattle.std.proofs.Common.{◌≡◌, ℕ, List, ◌∷◌, Some, set, sym}
use Rattle.std.specs.Prelude.{option_map}
use Rattle.allocator.specs.Superblocks.{Superblocks}
use Rattle.map_rows.specs.PageMap.{PageMap}
use Rattle.ssd_histories.specs.Blocks.{with_next_used}
use Rattle.ssd_histories.specs.History.{look_of}
use Rattle.ssd_histories.specs.HistoryLaws.{rows_after}
use Rattle.ssd_histories.specs.SerialCalls.{entry_of}
use Rattle.ssd_geo.specs.Superblock.{slots_of}
use Rattle.ssd_geo.specs.declared.kind.Kind.{Kind}
use Rattle.ssd_geo.specs.declared.look.Look.{Look}
use Rattle.ssd_geo.specs.declared.row.Row.{Row}
use Rattle.ssd_geo.specs.declared.shape.Shape.{Shape}
use Rattle.ssd_geo.specs.declared.slot.Slot.{Slot}
use Rattle.ssd_geo.specs.declared.tag.Tag.{Tag}
use Rattle.chan_tables.specs.TablesState.{HistoryState, TablesState, tables_after}

-- the tables that contracts see
abbrev pub tables_of : Shape → ℕ → PageMap → Superblocks → List (Tag × Look) → HistoryState → TablesState
tables_of shape session map blocks looks history = record {
  shape = shape;
  session = session;
  limit = history.limit;
  rows = map.rows;
  blocks = blocks.blocks;
  looks = looks;
  past = history.past;
  room = history.room;
}

-- a copy's slot is named in the row of its look
pub moved_tables : (tables : TablesState) (look : Look) (tag : Tag) (at : ℕ) (slot : Slot) → look_of tables.past at ≡ Some look
    → record tables {
      rows = set tables.rows look.row (Row.Page slot look.serial);
      blocks = with_next_used (slots_of tables.shape.pages tables.shape.dies) tables.blocks;
      past = entry_of tag (Kind.Move at slot) ∷ tables.past;
    }
    ≡ tables_after tables tag (Kind.Move at slot)
moved_tables tables look tag at slot found =
    λ i. record {
      shape = tables.shape;
      session = tables.session;
      limit = tables.limit;
      rows = rows_after (option_map (λ (l : Look). (l.row, Row.Page slot l.serial)) (sym found i)) tables.rows;
      blocks = with_next_used (slots_of tables.shape.pages tables.shape.dies) tables.blocks;
      looks = tables.looks;
      past = entry_of tag (Kind.Move at slot) ∷ tables.past;
      room = tables.room;
    }
