-- Where the rows of a start have serials of 64 bits, so have those after a lawful past of calls whose numbers fit their fields: a
-- write has its call's serial, and a copy keeps that of its row.
use Rattle.std.proofs.Common.{sym, subst, ℕ, zero, suc, ◌<◌, ◌^◌, ◌==◌, Bool, true, false, List, [], ◌∷◌, length, get_or, Option, Some, None, option_map, arith}
use Rattle.std.specs.Prelude.{All, ⊤}
use Rattle.std.proofs.lemmas.List.Elements.{All-head, All-tail}
use Rattle.std.proofs.lemmas.List.FromFn.{get_or-map-range_with_len, length-map-range_with_len}
use Rattle.ssd_geo.specs.Coding.{coding_of}
use Rattle.ssd_geo.specs.declared.base.ChannelBase.{ChannelBase}
use Rattle.ssd_geo.specs.declared.entry.Entry.{Entry}
use Rattle.ssd_geo.specs.declared.kind.Kind.{Kind}
use Rattle.ssd_geo.specs.declared.look.Look.{Look}
use Rattle.ssd_geo.specs.declared.row.Row.{Row}
use Rattle.ssd_geo.specs.declared.slot.Slot.{Slot}
use Rattle.ssd_geo.specs.declared.tag.Tag.{Tag}
use Rattle.ssd_geo.proofs.Payloads.{serials_name_their_calls}
use Rattle.ssd_histories.specs.History.{look_of}
use Rattle.ssd_histories.specs.Lawful.{IsLawful, IsLawfulKind, IsLawfulMove}
use Rattle.ssd_histories.specs.PastPages.{ladder_of}
use Rattle.ssd_histories.specs.PageMap.{row_at}
use Rattle.ssd_histories.specs.PastRows.{row_after, row_change, row_of, rows_of, serial_of}
use Rattle.ssd_histories.specs.Start.{Start}
use Rattle.recovery_laws.proofs.Pasts.{StepLook, step_look}
use Rattle.run_laws.specs.Serials.{HasSmallSerial, HasSmallSerials}
use Rattle.run_laws.specs.SpelledPasts.{IsSmallTag}
use Rattle.channel_ends.specs.ChannelEnds.{HasSmallTag}

-- what a change of a row leaves has such a serial
changed : (b : Bool) (after before : Row) → HasSmallSerial after → HasSmallSerial before
    → HasSmallSerial (elim b [ true ↦ after | false ↦ before ])
changed true after before is_after is_before = is_after
changed false after before is_after is_before = is_before

lost : (look : Option Look) (row : ℕ) (before : Row) → HasSmallSerial before
    → HasSmallSerial (row_after (option_map (λ (looked : Look). (looked.row, Row.Lost)) look) row before)
lost None row before held = held
lost (Some look) row before held = changed _ Row.Lost before tt held

-- each of a list, and what stands behind it
in_rows : (rows : List Row) (row : ℕ) → ((k : ℕ) → k < length rows → HasSmallSerial (get_or rows k Row.Empty))
    → HasSmallSerial (get_or rows row Row.Empty)
in_rows [] zero each = tt
in_rows [] (suc k) each = tt
in_rows (first ∷ rows) zero each = each 0 (omega arith)
in_rows (first ∷ rows) (suc k) each = in_rows rows k (λ i below. each (suc i) (omega (arith, below)))

module _ (start : Start) (contents : List (Tag × List ℕ)) (session_low : start.base.session < 2 ^ 24) where
  abbrev base : ChannelBase
  base = start.base

  -- a copy's row is as its look found it
  copied : (past : List Entry) (tag : Tag) (at : ℕ) (slot : Slot)
      → StepLook past at (λ pin. ⊤) (λ look. IsLawfulMove (ladder_of (coding_of base) start contents past at) base past look slot)
      → ((row : ℕ) → HasSmallSerial (row_of base past row)) → (row : ℕ)
      → HasSmallSerial (row_after (row_change base.session past tag (Kind.Move at slot)) row (row_of base past row))
  copied past tag at slot step held row =
      let look : Look = step.pin.1 in
      let small : HasSmallSerial (Row.Page look.slot look.serial) =
      subst (λ (of : Row). HasSmallSerial of) step.fact.may_copy.is_unchanged (held look.row) in
      subst (λ (found : Option Look).
      HasSmallSerial (row_after (option_map (λ (looked : Look). (looked.row, Row.Page slot looked.serial)) found) row (row_of base past row)))
      (sym step.is_look) (changed (look.row == row) (Row.Page slot look.serial) (row_of base past row) small (held row))

  row_step : (past : List Entry) (tag : Tag) (kind : Kind) → IsSmallTag tag
      → IsLawfulKind (ladder_of (coding_of base) start contents past) base past tag kind
      → ((row : ℕ) → HasSmallSerial (row_of base past row)) → (row : ℕ)
      → HasSmallSerial (row_after (row_change base.session past tag kind) row (row_of base past row))
  row_step past tag (Kind.Write named slot) small lawful held row =
      changed (named == row) (Row.Page slot (serial_of base.session tag)) (row_of base past row)
      (serials_name_their_calls base.session tag.actor tag.call session_low small.actor small.call).fits (held row)
  row_step past tag (Kind.Trim named) small lawful held row = changed (named == row) Row.Empty (row_of base past row) tt (held row)
  row_step past tag (Kind.Move at slot) small lawful held row =
      copied past tag at slot
      (step_look past tag at (λ pin. ⊤) (λ look. IsLawfulMove (ladder_of (coding_of base) start contents past at) base past look slot)
      (λ k d below. tt) lawful)
      held row
  row_step past tag (Kind.Condemn at) small lawful held row = lost (look_of past at) row (row_of base past row) (held row)
  row_step past tag kind small lawful held row = held row

  pub rows_stay_small : HasSmallSerials base → (past : List Entry) → IsLawful start contents past → All HasSmallTag past → (row : ℕ)
      → HasSmallSerial (row_of base past row)
  rows_stay_small serials [] lawful small row = serials row
  rows_stay_small serials (entry ∷ past) lawful small row =
      row_step past entry.tag entry.kind (All-head HasSmallTag entry past small) lawful.1.meets
      (rows_stay_small serials past lawful.0 (All-tail HasSmallTag entry past small)) row

  -- so have all rows, in the order of their numbers
  pub table_stays_small : HasSmallSerials base → (past : List Entry) → IsLawful start contents past → All HasSmallTag past → (row : ℕ)
      → HasSmallSerial (row_at (rows_of base past) row)
  table_stays_small serials past lawful small row =
      in_rows (rows_of base past) row (λ k below.
      subst (λ (of : Row). HasSmallSerial of)
      (sym (get_or-map-range_with_len (row_of base past) 0 base.shape.rows k k Row.Empty
      (omega (arith, below, length-map-range_with_len (row_of base past) 0 base.shape.rows)) (omega arith)))
      (rows_stay_small serials past lawful small k))
