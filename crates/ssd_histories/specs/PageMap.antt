-- Which rows of a page map name a slot, and which slots of a superblock are live? Each definition takes the rows of
-- one channel as a list, in the order of their numbers. A page is live where a row names its slot.
use Rattle.std.specs.Prelude.{ℕ, ◌==◌, nat_lt, Bool, true, false, ◌&&◌, IsTrue, Option, Some, None, option_map, List, [], ◌∷◌, count_by, position, filter_map, fold, min, slice_index_or, ◌≡◌}
use Rattle.ssd_geo.specs.declared.row.Row.{Row}
use Rattle.ssd_geo.specs.declared.row.Row.TheVariants.{Empty, Lost, Page}
use Rattle.ssd_geo.specs.declared.slot.Slot.{Slot}

-- the row with this number
abbrev pub row_at : List Row → ℕ → Row
row_at rows row = slice_index_or rows row Empty

-- whether a slot is this one
abbrev pub is_slot : Slot → Slot → Bool
is_slot slot other = slot.sb == other.sb && slot.index == other.index

-- whether a row names this slot
abbrev pub names_slot : Slot → Row → Bool
names_slot slot Empty = false
names_slot slot Lost = false
names_slot slot (Page named serial) = is_slot slot named

-- whether a row names a slot of this superblock
abbrev pub names_superblock : ℕ → Row → Bool
names_superblock sb Empty = false
names_superblock sb Lost = false
names_superblock sb (Page named serial) = named.sb == sb

-- how many rows name slots of a superblock: its live pages
abbrev pub live_in : List Row → ℕ → ℕ
live_in rows sb = count_by (names_superblock sb) rows

-- the row that names a slot, if there is one
abbrev pub owner_of : List Row → Slot → Option ℕ
owner_of rows slot = position (names_slot slot) rows

-- the index of the slot of this superblock that a row names, if it names one
abbrev pub index_when : Bool → ℕ → Option ℕ
index_when true index = Some index
index_when false index = None

abbrev pub index_in : ℕ → Row → Option ℕ
index_in sb Empty = None
index_in sb Lost = None
index_in sb (Page named serial) = index_when (named.sb == sb) named.index

-- the least of some numbers, if there are any
abbrev pub least_of : List ℕ → Option ℕ
least_of [] = None
least_of (x ∷ xs) = Some (fold min x xs)

-- the live slot of a superblock with the least index, if it has a live page
abbrev pub slot_at : ℕ → ℕ → Slot
slot_at sb index = record { sb = sb; index = index }

abbrev pub first_live_in : List Row → ℕ → Option Slot
first_live_in rows sb = option_map (slot_at sb) (least_of (filter_map (index_in sb) rows))

-- whether a row that names a slot names one of these superblocks, below this number of slots
abbrev pub names_within : ℕ → ℕ → Row → Bool
names_within superblocks slots Empty = true
names_within superblocks slots Lost = true
names_within superblocks slots (Page named serial) = nat_lt named.sb superblocks && nat_lt named.index slots

-- each row that names a slot names one of these superblocks, below this number of slots
abbrev pub NameWithin : ℕ → ℕ → List Row → Type 0
NameWithin superblocks slots rows = (row : ℕ) → IsTrue (names_within superblocks slots (row_at rows row))

-- no row but this one names the slot that a row's new value names
abbrev pub NoOtherNames : List Row → ℕ → Row → Type 0
NoOtherNames rows row Empty = Unit {0}
NoOtherNames rows row Lost = Unit {0}
NoOtherNames rows row (Page named serial) =
    (other : ℕ) → IsTrue (names_slot named (row_at rows other)) → other ≡ row

-- no two rows name one slot
abbrev pub NameApart : List Row → Type 0
NameApart rows =
    (slot : Slot) (row other : ℕ) → IsTrue (names_slot slot (row_at rows row))
    → IsTrue (names_slot slot (row_at rows other)) → row ≡ other
