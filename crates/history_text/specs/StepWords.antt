-- What do the words behind a step's name tell, where there are as many as are due? And which steps have names of
-- which group?
use Rattle.std.specs.Prelude.{ℕ, bytes_eq, Bool, if◌then◌else◌, List, codes, ℤ, Option, Some, None}
use Rattle.ssd_formats.specs.KindOfWords.{◌>>=◌, number_8, number_16, number_32, read_level, read_slot}
use Rattle.ssd_formats.specs.KindOfWords.{read_place, read_block, one_of, read_changed, read_numbered}
use Rattle.ssd_formats.specs.KindOfWords.{read_slotted, read_worn, read_age, read_bad, read_fault, read_note}
use Rattle.ssd_formats.specs.Numbers.{Text}
use Rattle.ssd_geo.specs.declared.kind.Kind.{Kind}
use Rattle.ssd_geo.specs.declared.kind.Kind.TheVariants.{Move, Condemn, Stay, Pick, Erase, Age, Refused}
use Rattle.ssd_geo.specs.declared.place.Place.{Place}
use Rattle.ssd_geo.specs.declared.slot.Slot.{Slot}
use Rattle.history_text.specs.Pieces.{four_pieces, only_piece, three_pieces, two_pieces}

-- one number
abbrev pub number_in : List Text → Option ℕ
number_in words = only_piece words >>= number_32

abbrev pub superblock_in : List Text → Option ℕ
superblock_in words = only_piece words >>= number_16

-- a row or a look, and a slot
abbrev pub slotted_in : List Text → Option (ℕ × Slot)
slotted_in words = do
  of ← two_pieces words
  n ← number_32 of.0
  s ← read_slot of.1
  Some (n, s)

-- a look, a place and a level
abbrev pub sensed_in : List Text → Option (ℕ × Place × ℤ)
sensed_in words = do
  of ← three_pieces words
  a ← number_32 of.0
  p ← read_place of.1
  l ← read_level of.2
  Some (a, p, l)

-- a row or a look, and whether the channel was worn
abbrev pub worn_in : Text → List Text → Option (ℕ × Bool)
worn_in other words = do
  of ← two_pieces words
  n ← number_32 of.0
  w ← one_of (codes "readonly") other of.1
  Some (n, w)

-- a slot that failed, with its row or its look, the die and whether that had a fault
abbrev pub bad_slot_in : List Text → Option (ℕ × Slot × ℕ × Bool)
bad_slot_in words = do
  of ← four_pieces words
  n ← number_32 of.0
  s ← read_slot of.1
  d ← number_8 of.2
  f ← one_of (codes "fault") (codes "fail") of.3
  Some (n, s, d, f)

-- a superblock whose erase failed, the die and whether that had a fault
abbrev pub bad_erase_in : List Text → Option (ℕ × ℕ × Bool)
bad_erase_in words = do
  of ← three_pieces words
  b ← number_16 of.0
  d ← number_8 of.1
  f ← one_of (codes "fault") (codes "fail") of.2
  Some (b, d, f)

-- a block, by its die and superblock, and an amount
abbrev pub aged_in : List Text → Option (ℕ × ℕ × ℕ)
aged_in words = do
  of ← two_pieces words
  b ← read_block of.0
  n ← number_16 of.1
  Some (b.0, b.1, n)

-- the steps by their names, in the order of the tests: those of refused writes, faults and notes
abbrev pub other_step_of : Text → List Text → Option Kind
other_step_of word words =
    if bytes_eq word (codes "refused") then read_worn Refused (codes "full") words
    else if bytes_eq word (codes "fault") then read_fault words
    else if bytes_eq word (codes "note") then read_note words
    else None

-- those of superblocks and blocks, and the others
abbrev pub block_step_of : Text → List Text → Option Kind
block_step_of word words =
    if bytes_eq word (codes "pick") then read_numbered Pick number_16 words
    else if bytes_eq word (codes "erase") then read_numbered Erase number_16 words
    else if bytes_eq word (codes "bad") then read_bad words
    else if bytes_eq word (codes "age") then read_age Age words
    else other_step_of word words

-- those of a copy, and the others
abbrev pub copy_step_of : Text → List Text → Option Kind
copy_step_of word words =
    if bytes_eq word (codes "move") then read_slotted Move words
    else if bytes_eq word (codes "changed") then read_changed words
    else if bytes_eq word (codes "condemn") then read_numbered Condemn number_32 words
    else if bytes_eq word (codes "stay") then read_worn Stay (codes "noroom") words
    else block_step_of word words
