-- The row that owns the live slot of least index names it.
use Rattle.std.proofs.Common.{◌≡◌, ℕ, ◌==◌, ◌&&◌, true, List, sym, ◌∙◌, ap, Option, Some, None, arith}
use Rattle.std.specs.Prelude.{IfSome}
use Rattle.std.proofs.lemmas.Bool.Decides.{nat_tests}
use Rattle.std.proofs.lemmas.List.Quantifiers.{position-Some}
use Rattle.ssd_histories.specs.PageMap.{first_live_in, is_slot, names_slot, owner_of, row_at}
use Rattle.ssd_geo.specs.declared.row.Row.{Row}
use Rattle.ssd_geo.specs.declared.slot.Slot.{Slot}
use Rattle.chan_tables.specs.Collecting.{NamesFirstLive}
use Rattle.ssd_histories.proofs.SameSlots.{slots_agree}

named_first : (rows : List Row) (sb : ℕ) (slot : Slot) (row : Row) → first_live_in rows sb ≡ Some slot → names_slot slot row ≡ true → NamesFirstLive rows sb row
named_first rows sb slot (Row.Page named serial) first e = first ∙ ap {B = Option Slot} (λ (s : Slot). Some s) (slots_agree slot named e)
named_first rows sb slot Row.Empty first e = cc
named_first rows sb slot Row.Lost first e = cc

pub owner_names : (rows : List Row) (sb : ℕ) (slot : Slot) (o : Option ℕ) → first_live_in rows sb ≡ Some slot → o ≡ owner_of rows slot → IfSome o (λ row. NamesFirstLive rows sb (row_at rows row))
owner_names rows sb slot None first e = tt
owner_names rows sb slot (Some row) first e = named_first rows sb slot (row_at rows row) first (position-Some (names_slot slot) rows row Row.Empty (sym e)).1
