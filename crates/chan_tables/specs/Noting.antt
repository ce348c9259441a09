-- What does a note tell of a channel?
use Rattle.std.specs.Prelude.{ℕ, List, Some, None}
use Rattle.ssd_histories.specs.Blocks.{free_blocks_in, victim_in}
use Rattle.ssd_histories.specs.OpenLooks.{looks_in}
use Rattle.ssd_histories.specs.Policies.{count_of_candidates, table_in}
use Rattle.ssd_geo.specs.declared.base.BlockBase.{BlockBase}
use Rattle.ssd_geo.specs.declared.kind.Kind.{Kind}
use Rattle.ssd_geo.specs.declared.look.Look.{Look}
use Rattle.ssd_geo.specs.declared.row.Row.{Row}
use Rattle.ssd_geo.specs.declared.tag.Tag.{Tag}
use Rattle.chan_tables.specs.Copying.{live_in_victim}
use Rattle.chan_tables.specs.declared.answers.Note.{Note}

-- how many open looks stand in the victim: 0 without one
abbrev pub pins_in_victim : List BlockBase → List (Tag × Look) → ℕ
pins_in_victim blocks looks = elim (victim_in blocks) [ Some sb ↦ looks_in looks sb | None ↦ 0 ]

-- the note over superblocks, of so many slots each, rows and open looks
abbrev pub note_of : ℕ → List BlockBase → List Row → List (Tag × Look) → Note
note_of slots blocks rows looks = record {
  free = free_blocks_in blocks;
  victim = victim_in blocks;
  live = live_in_victim blocks rows;
  pins = pins_in_victim blocks looks;
  garbage = count_of_candidates (table_in slots blocks rows looks);
}

-- the entry that a note adds
abbrev pub kind_of_note : Note → Kind
kind_of_note note = Kind.Note note.free note.victim note.live note.pins note.garbage
