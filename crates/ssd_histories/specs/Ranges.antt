-- Does an entry name only what the channel has? Each row, superblock, slot, place and die that it names is in the range
-- of the channel's sizes.
use Rattle.std.specs.Prelude.{ℕ, nat_lt, Bool, true, ◌&&◌, Option, Some, None}
use Rattle.ssd_geo.specs.Superblock.{slots_of}
use Rattle.ssd_geo.specs.declared.kind.Kind.{Kind}
use Rattle.ssd_geo.specs.declared.place.Place.{Place}
use Rattle.ssd_geo.specs.declared.row.Row.{Row}
use Rattle.ssd_geo.specs.declared.shape.Shape.{Shape}
use Rattle.ssd_geo.specs.declared.slot.Slot.{Slot}

-- whether a slot, a place and what a row holds are those of a channel
abbrev pub has_slot : Shape → Slot → Bool
has_slot shape slot = nat_lt slot.sb shape.superblocks && nat_lt slot.index (slots_of shape.pages shape.dies)

abbrev pub has_place : Shape → Place → Bool
has_place shape place =
    nat_lt place.die shape.dies && nat_lt place.sb shape.superblocks && nat_lt place.page shape.pages

abbrev pub has_row : Shape → Row → Bool
has_row shape (Row.Page slot serial) = has_slot shape slot
has_row shape _ = true

-- whether a superblock, where there is one, is one of the channel
abbrev pub has_superblock : Shape → Option ℕ → Bool
has_superblock shape None = true
has_superblock shape (Some sb) = nat_lt sb shape.superblocks

-- whether all that an entry names is the channel's
abbrev pub is_in_range : Shape → Kind → Bool
is_in_range shape (Kind.Look row found closed) = nat_lt row shape.rows && has_row shape found
is_in_range shape (Kind.Sense at place level) = has_place shape place
is_in_range shape (Kind.Leave at) = true
is_in_range shape (Kind.Write row slot) = nat_lt row shape.rows && has_slot shape slot
is_in_range shape (Kind.Trim row) = nat_lt row shape.rows
is_in_range shape (Kind.Move at slot) = has_slot shape slot
is_in_range shape (Kind.Changed at found) = has_row shape found
is_in_range shape (Kind.Condemn at) = true
is_in_range shape (Kind.Stay at worn) = true
is_in_range shape (Kind.Pick sb) = nat_lt sb shape.superblocks
is_in_range shape (Kind.Erase sb) = nat_lt sb shape.superblocks
is_in_range shape (Kind.BadWrite row slot die fault) =
    nat_lt row shape.rows && has_slot shape slot && nat_lt die shape.dies
is_in_range shape (Kind.BadCopy at slot die fault) = has_slot shape slot && nat_lt die shape.dies
is_in_range shape (Kind.BadErase sb die fault) = nat_lt sb shape.superblocks && nat_lt die shape.dies
is_in_range shape (Kind.Age die sb amount) = nat_lt die shape.dies && nat_lt sb shape.superblocks
is_in_range shape (Kind.Refused row worn) = nat_lt row shape.rows
is_in_range shape (Kind.FaultSense at place level) = has_place shape place
is_in_range shape (Kind.FaultAge die sb amount) = nat_lt die shape.dies && nat_lt sb shape.superblocks
is_in_range shape (Kind.Note free victim live pins garbage) = has_superblock shape victim
