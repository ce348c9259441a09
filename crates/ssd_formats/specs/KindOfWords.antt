-- Which words of a history's line tell what a step did? They are the words of `kind_words`, with numbers that fit their
-- fields.
use Rattle.std.specs.Prelude.{ℕ, ◌^◌, nat_eq, bytes_eq, Bool, true, false, if◌then◌else◌, List, [], ◌∷◌, codes, ℤ, pos, negsuc, Option, Some, None}
use Rattle.std.specs.List.{slice_split}
use Rattle.ssd_formats.specs.Fields.{passing}
use Rattle.ssd_geo.specs.Limits.{is_signed_within}
use Rattle.ssd_formats.specs.Numbers.{Text, number_below, signed_of_text}
use Rattle.ssd_geo.specs.declared.kind.Kind.{Kind}
use Rattle.ssd_geo.specs.declared.kind.Kind.TheVariants.{Look, Sense, Leave, Write, Trim, Move, Changed, Condemn, Stay, Pick, Erase, BadWrite, BadCopy, BadErase, Age, Refused, FaultSense, FaultAge, Note}
use Rattle.ssd_geo.specs.declared.place.Place.{Place}
use Rattle.ssd_geo.specs.declared.row.Row.{Row}
use Rattle.ssd_geo.specs.declared.row.Row.TheVariants.{Empty, Lost, Page}
use Rattle.ssd_geo.specs.declared.slot.Slot.{Slot}
use Rattle.ssd_geo.specs.declared.tag.Tag.{Tag}

-- goes on with a value that is there
infixl 10 ◌>>=◌
abbrev pub ◌>>=◌ : {A B : Type 0} → Option A → (A → Option B) → Option B
(Some x) >>= next = next x
None >>= next = None

-- numbers of 8, 16, 32 and 64 bits
abbrev pub number_8 : Text → Option ℕ
number_8 word = number_below (2 ^ 8) word

abbrev pub number_16 : Text → Option ℕ
number_16 word = number_below (2 ^ 16) word

abbrev pub number_32 : Text → Option ℕ
number_32 word = number_below (2 ^ 32) word

abbrev pub number_64 : Text → Option ℕ
number_64 word = number_below (2 ^ 64) word

-- a level: any number of 16 bits with a sign
abbrev pub read_level : Text → Option ℤ
read_level word = signed_of_text word >>= passing (is_signed_within (negsuc 32767) (pos 32767))

-- what stands between the full stops of a word
abbrev pub is_full_stop : ℕ → Bool
is_full_stop byte = nat_eq byte 46

abbrev pub cut_in_parts : Text → List Text
cut_in_parts word = slice_split is_full_stop word

abbrev pub slot_in_parts : List Text → Option Slot
slot_in_parts (sb ∷ index ∷ []) = do
  b ← number_16 sb
  n ← number_32 index
  Some (record { sb = b; index = n })
slot_in_parts parts = None

abbrev pub read_slot : Text → Option Slot
read_slot word = slot_in_parts (cut_in_parts word)

abbrev pub place_in_parts : List Text → Option Place
place_in_parts (die ∷ sb ∷ page ∷ []) = do
  d ← number_8 die
  b ← number_16 sb
  p ← number_16 page
  Some (record { die = d; sb = b; page = p })
place_in_parts parts = None

abbrev pub read_place : Text → Option Place
read_place word = place_in_parts (cut_in_parts word)

-- a die and a superblock
abbrev pub block_in_parts : List Text → Option (ℕ × ℕ)
block_in_parts (die ∷ sb ∷ []) = do
  d ← number_8 die
  b ← number_16 sb
  Some (d, b)
block_in_parts parts = None

abbrev pub read_block : Text → Option (ℕ × ℕ)
read_block word = block_in_parts (cut_in_parts word)

abbrev pub tag_in_parts : List Text → Option Tag
tag_in_parts (actor ∷ call ∷ []) = do
  a ← number_8 actor
  c ← number_32 call
  Some (record { actor = a; call = c })
tag_in_parts parts = None

abbrev pub read_tag : Text → Option Tag
read_tag word = tag_in_parts (cut_in_parts word)

-- one of two words: the first stands for true
abbrev pub one_of : Text → Text → Text → Option Bool
one_of first second word =
    if bytes_eq word first then Some true else if bytes_eq word second then Some false else None

-- whether a word was there that had to be
abbrev pub expected : Text → Text → Option Bool
expected wanted word = if bytes_eq word wanted then Some true else None

-- what a row held
abbrev pub read_row : List Text → Option Row
read_row (word ∷ []) = do
  empty ← one_of (codes "empty") (codes "lost") word
  Some (if empty then Empty else Lost)
read_row (word ∷ slot ∷ serial ∷ []) = do
  page ← expected (codes "page") word
  s ← read_slot slot
  n ← number_64 serial
  Some (Page s n)
read_row words = None

-- what a look found, and whether its stripe was closed
abbrev pub read_found : List Text → Option (Row × Bool)
read_found (word ∷ slot ∷ serial ∷ closed ∷ []) = do
  row ← read_row (word ∷ slot ∷ serial ∷ [])
  c ← one_of (codes "closed") (codes "open") closed
  Some (row, c)
read_found (word ∷ []) = do
  row ← read_row (word ∷ [])
  Some (row, false)
read_found words = None

-- the steps, by the words after the first, or after the first two
abbrev pub read_look : List Text → Option Kind
read_look (row ∷ found) = do
  r ← number_32 row
  f ← read_found found
  Some (Look r f.0 f.1)
read_look words = None

abbrev pub read_sense : (ℕ → Place → ℤ → Kind) → List Text → Option Kind
read_sense kind (at ∷ place ∷ level ∷ []) = do
  a ← number_32 at
  p ← read_place place
  l ← read_level level
  Some (kind a p l)
read_sense kind words = None

abbrev pub read_numbered : (ℕ → Kind) → (Text → Option ℕ) → List Text → Option Kind
read_numbered kind number (word ∷ []) = do
  n ← number word
  Some (kind n)
read_numbered kind number words = None

abbrev pub read_slotted : (ℕ → Slot → Kind) → List Text → Option Kind
read_slotted kind (number ∷ slot ∷ []) = do
  n ← number_32 number
  s ← read_slot slot
  Some (kind n s)
read_slotted kind words = None

abbrev pub read_changed : List Text → Option Kind
read_changed (at ∷ found) = do
  a ← number_32 at
  f ← read_row found
  Some (Changed a f)
read_changed words = None

abbrev pub read_worn : (ℕ → Bool → Kind) → Text → List Text → Option Kind
read_worn kind other (number ∷ worn ∷ []) = do
  n ← number_32 number
  w ← one_of (codes "readonly") other worn
  Some (kind n w)
read_worn kind other words = None

abbrev pub read_bad_slot : (ℕ → Slot → ℕ → Bool → Kind) → List Text → Option Kind
read_bad_slot kind (number ∷ slot ∷ die ∷ fault ∷ []) = do
  n ← number_32 number
  s ← read_slot slot
  d ← number_8 die
  f ← one_of (codes "fault") (codes "fail") fault
  Some (kind n s d f)
read_bad_slot kind words = None

abbrev pub read_bad_erase : List Text → Option Kind
read_bad_erase (sb ∷ die ∷ fault ∷ []) = do
  b ← number_16 sb
  d ← number_8 die
  f ← one_of (codes "fault") (codes "fail") fault
  Some (BadErase b d f)
read_bad_erase words = None

abbrev pub read_age : (ℕ → ℕ → ℕ → Kind) → List Text → Option Kind
read_age kind (block ∷ amount ∷ []) = do
  b ← read_block block
  n ← number_16 amount
  Some (kind b.0 b.1 n)
read_age kind words = None

-- a superblock that may be missing
abbrev pub read_victim : Text → Option (Option ℕ)
read_victim word = if bytes_eq word (codes "-") then Some None else (number_16 word >>= (λ sb. Some (Some sb)))

abbrev pub read_note : List Text → Option Kind
read_note (free ∷ victim ∷ live ∷ pins ∷ garbage ∷ []) = do
  f ← number_16 free
  v ← read_victim victim
  l ← number_32 live
  p ← number_32 pins
  g ← number_16 garbage
  Some (Note f v l p g)
read_note words = None

abbrev pub read_bad : List Text → Option Kind
read_bad [] = None
read_bad (word ∷ words) =
    if bytes_eq word (codes "write") then read_bad_slot BadWrite words
    else if bytes_eq word (codes "copy") then read_bad_slot BadCopy words
    else if bytes_eq word (codes "erase") then read_bad_erase words
    else None

abbrev pub read_fault : List Text → Option Kind
read_fault [] = None
read_fault (word ∷ words) =
    if bytes_eq word (codes "sense") then read_sense FaultSense words
    else if bytes_eq word (codes "age") then read_age FaultAge words
    else None

-- what a step did, by its words
abbrev pub kind_of_words : List Text → Option Kind
kind_of_words [] = None
kind_of_words (word ∷ words) =
    if bytes_eq word (codes "look") then read_look words
    else if bytes_eq word (codes "sense") then read_sense Sense words
    else if bytes_eq word (codes "leave") then read_numbered Leave number_32 words
    else if bytes_eq word (codes "write") then read_slotted Write words
    else if bytes_eq word (codes "trim") then read_numbered Trim number_32 words
    else if bytes_eq word (codes "move") then read_slotted Move words
    else if bytes_eq word (codes "changed") then read_changed words
    else if bytes_eq word (codes "condemn") then read_numbered Condemn number_32 words
    else if bytes_eq word (codes "stay") then read_worn Stay (codes "noroom") words
    else if bytes_eq word (codes "pick") then read_numbered Pick number_16 words
    else if bytes_eq word (codes "erase") then read_numbered Erase number_16 words
    else if bytes_eq word (codes "bad") then read_bad words
    else if bytes_eq word (codes "age") then read_age Age words
    else if bytes_eq word (codes "refused") then read_worn Refused (codes "full") words
    else if bytes_eq word (codes "fault") then read_fault words
    else if bytes_eq word (codes "note") then read_note words
    else None
