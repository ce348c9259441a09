-- When is a channel's history lawful? Each entry meets the condition of its kind over the entries before it. The
-- conditions tie an entry to what the page map, the superblocks, the open looks and the ladder were at its position.
-- They are this project's own. What the ladder of a look has come to is handed in by a function of the past and the
-- look's position, so that all else can be judged without decoding a word.
use Rattle.std.specs.Prelude.{ℕ, ◌==◌, ◌≡◌, ◌≢◌, nat_le, Bool, false, ◌||◌, not, if◌then◌else◌, IsTrue, List, [], ◌∷◌, Option, Some, None, is_none, IsSomeAnd, ℤ, ⊤}
use Rattle.std.specs.List.{list_any}
use Rattle.ssd_geo.specs.Coding.{coding_of}
use Rattle.ssd_histories.specs.History.{open_look}
use Rattle.ssd_geo.specs.Ladder.{LadderState, asks, has_answer, is_recovered, is_uncorrectable}
use Rattle.ssd_histories.specs.PastPages.{ladder_of}
use Rattle.ssd_histories.specs.PastRows.{row_of}
use Rattle.ssd_histories.specs.Ranges.{is_in_range}
use Rattle.ssd_histories.specs.Room.{count_of_free, count_of_garbage, has_garbage, has_host_room, is_full, is_stripe_closed, is_victim_now, is_worn, live_of, live_of_victim, next_slot, pins_of, pins_of_victim, victim_of}
use Rattle.ssd_histories.specs.Start.{Start}
use Rattle.ssd_histories.specs.WeakDies.{dies_in, dies_of_program, is_none_weak, may_fail_on}
use Rattle.ssd_geo.specs.declared.base.ChannelBase.{ChannelBase}
use Rattle.ssd_geo.specs.declared.entry.Entry.{Entry}
use Rattle.ssd_geo.specs.declared.kind.Kind.{Kind}
use Rattle.ssd_geo.specs.declared.look.Look.{Look}
use Rattle.ssd_geo.specs.declared.place.Place.{Place}
use Rattle.ssd_geo.specs.declared.row.Row.{Row}
use Rattle.ssd_geo.specs.declared.slot.Slot.{Slot}
use Rattle.ssd_geo.specs.declared.tag.Tag.{Tag}

-- whether what a look found is a page of a closed stripe
abbrev pub is_closed_page : ChannelBase → List Entry → Row → Bool
is_closed_page base past (Row.Page slot serial) = is_stripe_closed base past slot
is_closed_page base past _ = false

-- whether an entry is a sense of a look in which the die failed, and whether the past has one
abbrev pub is_fault_sense_of : ℕ → Kind → Bool
is_fault_sense_of at (Kind.FaultSense named place level) = named == at
is_fault_sense_of at _ = false

abbrev pub has_fault_sense : List Entry → ℕ → Bool
has_fault_sense past at = list_any (λ entry. is_fault_sense_of at entry.kind) past

-- the page that a look found, as the page map holds it
abbrev pub page_looked_at : Look → Row
page_looked_at look = Row.Page look.slot look.serial

-- Look: what was found is what the page map holds, and it is said to be closed exactly where it is a page whose
-- stripe is closed
pub record IsLawfulLook (base : ChannelBase) (past : List Entry) (row : ℕ) (found : Row) (closed : Bool) : Type 0 where
  pub is_found : found ≡ row_of base past row
  pub is_said : closed ≡ is_closed_page base past found

-- Sense, FaultSense: no sense of the look failed before, and its ladder asks for just this one next
pub record IsLawfulSense (state : LadderState) (past : List Entry) (at : ℕ) (place : Place) (level : ℤ) : Type 0 where
  pub no_fault : IsTrue (not (has_fault_sense past at))
  pub is_asked : state ≡ asks place level

-- Leave: the look's ladder has an answer, or a sense of it failed
abbrev pub IsLawfulLeave : LadderState → List Entry → ℕ → Type 0
IsLawfulLeave state past at = IsTrue (has_answer state || has_fault_sense past at)

-- a page is programmed into a slot: it is the next slot, and no die that the program uses is weak
pub record IsProgrammed (base : ChannelBase) (past : List Entry) (slot : Slot) : Type 0 where
  pub is_next : next_slot base past ≡ Some slot
  pub none_weak : IsTrue (is_none_weak base past slot.sb (dies_of_program base.shape.dies slot))

-- a program of a slot fails on a die: it is the next slot, and the program may fail there
pub record IsFailedProgram (base : ChannelBase) (past : List Entry) (slot : Slot) (die : ℕ) (fault : Bool) : Type 0 where
  pub is_next : next_slot base past ≡ Some slot
  pub may_fail : IsTrue (may_fail_on base past slot.sb (dies_of_program base.shape.dies slot) die fault)

-- Write: the host has room, and the page is programmed
pub record IsLawfulWrite (base : ChannelBase) (past : List Entry) (slot : Slot) : Type 0 where
  pub has_room : IsTrue (has_host_room base past)
  pub is_programmed : IsProgrammed base past slot

-- BadWrite: the host has room, and the program fails
pub record IsLawfulBadWrite (base : ChannelBase) (past : List Entry) (slot : Slot) (die : ℕ) (fault : Bool) : Type 0 where
  pub has_room : IsTrue (has_host_room base past)
  pub is_failed : IsFailedProgram base past slot die fault

-- the row of a look is as the look found it
abbrev pub IsUnchanged : ChannelBase → List Entry → Look → Type 0
IsUnchanged base past look = row_of base past look.row ≡ page_looked_at look

-- a copy of a look's page may be made: its ladder recovered the page, the row is as the look found it, and there is
-- room for a host's page, or the look stands in the victim
pub record MayCopy (state : LadderState) (base : ChannelBase) (past : List Entry) (look : Look) : Type 0 where
  pub is_recovered : IsTrue (is_recovered state)
  pub is_unchanged : IsUnchanged base past look
  pub has_room : IsTrue (has_host_room base past || is_victim_now base past look.slot.sb)

-- Move: the copy may be made, and is programmed
pub record IsLawfulMove (state : LadderState) (base : ChannelBase) (past : List Entry) (look : Look) (slot : Slot) : Type 0 where
  pub may_copy : MayCopy state base past look
  pub is_programmed : IsProgrammed base past slot

-- BadCopy: the copy may be made, and its program fails
pub record IsLawfulBadCopy (state : LadderState) (base : ChannelBase) (past : List Entry) (look : Look) (slot : Slot) (die : ℕ) (fault : Bool) : Type 0 where
  pub may_copy : MayCopy state base past look
  pub is_failed : IsFailedProgram base past slot die fault

-- whether a look finds no room for a copy: in the victim where there is no next slot, elsewhere where there is no
-- room for a host's page
abbrev pub lacks_room : ChannelBase → List Entry → Look → Bool
lacks_room base past look =
    if is_victim_now base past look.slot.sb
    then is_none (next_slot base past)
    else not (has_host_room base past)

-- Stay: the ladder recovered the page, its row is unchanged, and the copy finds no room; the flag is worn's
pub record IsLawfulStay (state : LadderState) (base : ChannelBase) (past : List Entry) (look : Look) (worn : Bool) : Type 0 where
  pub is_recovered : IsTrue (is_recovered state)
  pub is_unchanged : IsUnchanged base past look
  pub no_room : IsTrue (lacks_room base past look)
  pub flag : worn ≡ is_worn base past

-- Changed: the ladder has an answer, and the row is what was found, which isn't what the look found
pub record IsLawfulChanged (state : LadderState) (base : ChannelBase) (past : List Entry) (look : Look) (found : Row) : Type 0 where
  pub has_answer : IsTrue (has_answer state)
  pub is_found : found ≡ row_of base past look.row
  pub is_other : found ≢ page_looked_at look

-- Condemn: the ladder can't recover the page, and its row is unchanged
pub record IsLawfulCondemn (state : LadderState) (base : ChannelBase) (past : List Entry) (look : Look) : Type 0 where
  pub is_uncorrectable : IsTrue (is_uncorrectable state)
  pub is_unchanged : IsUnchanged base past look

-- Pick: there is no victim and there is a free superblock; the one picked is sealed and has garbage
pub record IsLawfulPick (base : ChannelBase) (past : List Entry) (sb : ℕ) : Type 0 where
  pub no_victim : victim_of base past ≡ None
  pub has_free : IsTrue (nat_le 1 (count_of_free base past))
  pub is_candidate : IsTrue (has_garbage base past sb)

-- the victim may be erased: it has no live page, and no open look stands in it
pub record MayErase (base : ChannelBase) (past : List Entry) (sb : ℕ) : Type 0 where
  pub is_victim : victim_of base past ≡ Some sb
  pub no_live : live_of base past sb ≡ 0
  pub no_pin : pins_of past sb ≡ 0

-- Erase: the victim may be erased, and no die is weak in it
pub record IsLawfulErase (base : ChannelBase) (past : List Entry) (sb : ℕ) : Type 0 where
  pub may_erase : MayErase base past sb
  pub none_weak : IsTrue (is_none_weak base past sb (dies_in base))

-- BadErase: the victim may be erased, and the erase, which goes over the dies in order, fails
pub record IsLawfulBadErase (base : ChannelBase) (past : List Entry) (sb die : ℕ) (fault : Bool) : Type 0 where
  pub may_erase : MayErase base past sb
  pub may_fail : IsTrue (may_fail_on base past sb (dies_in base) die fault)

-- Refused: worn with the flag, full without it
abbrev pub IsLawfulRefused : ChannelBase → List Entry → Bool → Type 0
IsLawfulRefused base past worn = IsTrue (if worn then is_worn base past else is_full base past)

-- Note: its numbers are those at its position
pub record IsLawfulNote (base : ChannelBase) (past : List Entry) (free : ℕ) (victim : Option ℕ) (live pins garbage : ℕ) : Type 0 where
  pub free_is : free ≡ count_of_free base past
  pub victim_is : victim ≡ victim_of base past
  pub live_is : live ≡ live_of_victim base past
  pub pins_is : pins ≡ pins_of_victim base past
  pub garbage_is : garbage ≡ count_of_garbage base past

-- what an entry owes over its past, by its kind. Where it is a step of a look, that is the open look that began at the
-- position named, made by the same call. Trims and ageing owe nothing.
abbrev pub IsLawfulKind : (ℕ → LadderState) → ChannelBase → List Entry → Tag → Kind → Type 0
IsLawfulKind ladder base past tag (Kind.Look row found closed) = IsLawfulLook base past row found closed
IsLawfulKind ladder base past tag (Kind.Sense at place level) =
    IsSomeAnd (open_look past tag at) (λ look. IsLawfulSense (ladder at) past at place level)
IsLawfulKind ladder base past tag (Kind.Leave at) =
    IsSomeAnd (open_look past tag at) (λ look. IsLawfulLeave (ladder at) past at)
IsLawfulKind ladder base past tag (Kind.Write row slot) = IsLawfulWrite base past slot
IsLawfulKind ladder base past tag (Kind.Trim row) = ⊤
IsLawfulKind ladder base past tag (Kind.Move at slot) =
    IsSomeAnd (open_look past tag at) (λ look. IsLawfulMove (ladder at) base past look slot)
IsLawfulKind ladder base past tag (Kind.Changed at found) =
    IsSomeAnd (open_look past tag at) (λ look. IsLawfulChanged (ladder at) base past look found)
IsLawfulKind ladder base past tag (Kind.Condemn at) =
    IsSomeAnd (open_look past tag at) (λ look. IsLawfulCondemn (ladder at) base past look)
IsLawfulKind ladder base past tag (Kind.Stay at worn) =
    IsSomeAnd (open_look past tag at) (λ look. IsLawfulStay (ladder at) base past look worn)
IsLawfulKind ladder base past tag (Kind.Pick sb) = IsLawfulPick base past sb
IsLawfulKind ladder base past tag (Kind.Erase sb) = IsLawfulErase base past sb
IsLawfulKind ladder base past tag (Kind.BadWrite row slot die fault) = IsLawfulBadWrite base past slot die fault
IsLawfulKind ladder base past tag (Kind.BadCopy at slot die fault) =
    IsSomeAnd (open_look past tag at) (λ look. IsLawfulBadCopy (ladder at) base past look slot die fault)
IsLawfulKind ladder base past tag (Kind.BadErase sb die fault) = IsLawfulBadErase base past sb die fault
IsLawfulKind ladder base past tag (Kind.Age die sb amount) = ⊤
IsLawfulKind ladder base past tag (Kind.Refused row worn) = IsLawfulRefused base past worn
IsLawfulKind ladder base past tag (Kind.FaultSense at place level) =
    IsSomeAnd (open_look past tag at) (λ look. IsLawfulSense (ladder at) past at place level)
IsLawfulKind ladder base past tag (Kind.FaultAge die sb amount) = ⊤
IsLawfulKind ladder base past tag (Kind.Note free victim live pins garbage) =
    IsLawfulNote base past free victim live pins garbage

-- an entry is lawful over its past: what it names is the channel's, and it meets the condition of its kind
pub record IsLawfulEntry (ladder : ℕ → LadderState) (base : ChannelBase) (past : List Entry) (entry : Entry) : Type 0 where
  pub in_range : IsTrue (is_in_range base.shape entry.kind)
  pub meets : IsLawfulKind ladder base past entry.tag entry.kind

-- every entry of a past is lawful over those before it, where the ladders of looks are handed in
abbrev pub IsLawfulBy : (List Entry → ℕ → LadderState) → ChannelBase → List Entry → Type 0
IsLawfulBy ladder base [] = ⊤
IsLawfulBy ladder base (entry ∷ past) = IsLawfulBy ladder base past × IsLawfulEntry (ladder past) base past entry

-- a past is lawful from a start, with the data of writes that the contents give
abbrev pub IsLawful : Start → List (Tag × List ℕ) → List Entry → Type 0
IsLawful start contents past = IsLawfulBy (ladder_of (coding_of start.base) start contents) start.base past
