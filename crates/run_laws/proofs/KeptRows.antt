-- A row is lost only by an entry that condemns its page.
use Rattle.std.proofs.Common.{◌≢◌, ℕ, ◌==◌, Bool, true, false, List, [], ◌∷◌, Option, Some, None}
use Rattle.std.specs.Prelude.{option_map}
use Rattle.std.proofs.lemmas.List.Elements.{All-head, All-tail}
use Rattle.ssd_geo.specs.declared.entry.Entry.{Entry}
use Rattle.ssd_geo.specs.declared.kind.Kind.{Kind}
use Rattle.ssd_geo.specs.declared.look.Look.{Look}
use Rattle.ssd_geo.specs.declared.row.Row.{Row}
use Rattle.ssd_geo.specs.declared.slot.Slot.{Slot}
use Rattle.ssd_geo.specs.declared.tag.Tag.{Tag}
use Rattle.ssd_histories.specs.History.{look_of}
use Rattle.ssd_histories.specs.PastRows.{row_after, row_change, row_of, serial_of}
use Rattle.run_laws.specs.FirstSenses.{IsNoCondemn, LostRowsWereCondemned}

-- a row isn't lost where neither what it may have changed to nor what it held is
kept_row : (b : Bool) (to before : Row) → to ≢ Row.Lost → before ≢ Row.Lost →
    (elim b [ true ↦ to | false ↦ before ]) ≢ Row.Lost
kept_row true to before h g = h
kept_row false to before h g = g

page_is_kept : (slot : Slot) (serial : ℕ) → Row.Page slot serial ≢ Row.Lost
page_is_kept slot serial e = absurd (cc)

empty_is_kept : Row.Empty ≢ Row.Lost
empty_is_kept e = absurd (cc)

kept_by_copy : (look : Option Look) (slot : Slot) (row : ℕ) (before : Row) → before ≢ Row.Lost →
    row_after (option_map (λ looked. (looked.row, Row.Page slot looked.serial)) look) row before ≢ Row.Lost
kept_by_copy None slot row before h = h
kept_by_copy (Some look) slot row before h =
    kept_row (look.row == row) (Row.Page slot look.serial) before (page_is_kept slot look.serial) h

-- nor after one more entry
row_is_kept : (session : ℕ) (past : List Entry) (row : ℕ) (before : Row) (tag : Tag) (kind : Kind) → IsNoCondemn kind →
    before ≢ Row.Lost → row_after (row_change session past tag kind) row before ≢ Row.Lost
row_is_kept session past row before tag (Kind.Write named slot) none h =
    kept_row (named == row) (Row.Page slot (serial_of session tag)) before (page_is_kept slot (serial_of session tag)) h
row_is_kept session past row before tag (Kind.Trim named) none h = kept_row (named == row) Row.Empty before empty_is_kept h
row_is_kept session past row before tag (Kind.Move at slot) none h = kept_by_copy (look_of past at) slot row before h
row_is_kept session past row before tag (Kind.Condemn at) none h = absurd none
row_is_kept session past row before tag kind none h = h

pub lost_rows_were_condemned : LostRowsWereCondemned
lost_rows_were_condemned base [] row none began = began
lost_rows_were_condemned base (entry ∷ past) row none began =
    row_is_kept base.session past row (row_of base past row) entry.tag entry.kind
    (All-head (λ (other : Entry). IsNoCondemn other.kind) entry past none)
    (lost_rows_were_condemned base past row (All-tail (λ (other : Entry). IsNoCondemn other.kind) entry past none) began)
