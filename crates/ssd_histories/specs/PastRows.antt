-- What does the page map hold for a row? The latest entry that changed the row decides: a write or a copy names the
-- new slot, a trim empties the row, and a page that couldn't be recovered is lost. Without such an entry the
-- row is what it was at the start.
use Rattle.std.specs.Prelude.{ℕ, ◌==◌, true, false, List, [], ◌∷◌, map, slice_index_or, Option, Some, None, option_map}
use Rattle.std.specs.List.{range_with_len}
use Rattle.ssd_geo.specs.declared.base.ChannelBase.{ChannelBase}
use Rattle.ssd_geo.specs.declared.entry.Entry.{Entry}
use Rattle.ssd_geo.specs.declared.kind.Kind.{Kind}
use Rattle.ssd_geo.specs.declared.row.Row.{Row}
use Rattle.ssd_geo.specs.declared.tag.Tag.{Tag}
use Rattle.ssd_histories.specs.History.{look_of}
use Rattle.ssd_geo.specs.PageHead.{serial_of_call}

-- the serial of a write by a call
abbrev pub serial_of : ℕ → Tag → ℕ
serial_of session tag = serial_of_call session tag.actor tag.call

-- the row that an entry changes and what the map then holds for it, if the entry changes one
abbrev pub row_change : ℕ → List Entry → Tag → Kind → Option (ℕ × Row)
row_change session past tag (Kind.Write row slot) = Some (row, Row.Page slot (serial_of session tag))
row_change session past tag (Kind.Trim row) = Some (row, Row.Empty)
row_change session past tag (Kind.Move at slot) =
    option_map (λ look. (look.row, Row.Page slot look.serial)) (look_of past at)
row_change session past tag (Kind.Condemn at) = option_map (λ look. (look.row, Row.Lost)) (look_of past at)
row_change session past tag _ = None

-- what the map holds for a row after a change of some row, from what it held before
abbrev pub row_after : Option (ℕ × Row) → ℕ → Row → Row
row_after None row before = before
row_after (Some change) row before = elim (change.0 == row) [ true ↦ change.1 | false ↦ before ]

-- what the page map holds for a row
abbrev pub row_of : ChannelBase → List Entry → ℕ → Row
row_of base [] row = slice_index_or base.rows row Row.Empty
row_of base (entry ∷ past) row =
    row_after (row_change base.session past entry.tag entry.kind) row (row_of base past row)

-- the page map: all rows in the order of their numbers
abbrev pub rows_of : ChannelBase → List Entry → List Row
rows_of base past = map (row_of base past) (range_with_len 0 base.shape.rows)
