-- Which histories are worked out, to see that the rules say what is meant? All stand on one channel with three dies and
-- four superblocks of two pages, so of four data slots each. The pages have a coding without a code: a
-- word is the low bytes of its serial and row and the data, and a sense at which it is read is taken as it is.
use Rattle.std.specs.Prelude.{ℕ, ◌%◌, nat_eq, false, true, List, [], ◌∷◌, flat_map, map, replicate, Some, None, pos, negsuc}
use Rattle.std.specs.List.{starts_with, range_with_len}
use Rattle.ssd_histories.specs.Blocks.{blank_block}
use Rattle.ssd_geo.specs.Coding.{Coding}
use Rattle.ssd_histories.specs.Lawful.{IsLawfulBy}
use Rattle.ssd_geo.specs.Limits.{IsWithinLimits, Sizes}
use Rattle.ssd_histories.specs.PageMap.{slot_at}
use Rattle.ssd_histories.specs.PastPages.{ladder_of}
use Rattle.ssd_histories.specs.History.{past_of}
use Rattle.ssd_histories.specs.Start.{Start}
use Rattle.ssd_geo.specs.declared.base.ChannelBase.{ChannelBase}
use Rattle.ssd_geo.specs.declared.entry.Entry.{Entry}
use Rattle.ssd_geo.specs.declared.kind.Kind.{Kind}
use Rattle.ssd_geo.specs.declared.place.Place.{Place}
use Rattle.ssd_geo.specs.declared.row.Row.{Row}
use Rattle.ssd_geo.specs.declared.tag.Tag.{Tag}
use Rattle.ssd_geo.specs.declared.weak.Weak.{Weak}

-- the channel's sizes
abbrev pub small_sizes : Sizes
small_sizes = record { words = 1; channels = 1; dies = 3; superblocks = 4; pages = 2; z = 64; mb = 3; nb = 6; bytes = 8; rows = 8 }

-- they are within the limits
abbrev pub AreWithinLimits : Type 0
AreWithinLimits = IsWithinLimits small_sizes

-- the blank channel, with its weak blocks
abbrev pub small_channel : List Weak → AreWithinLimits → ChannelBase
small_channel weak within = record {
  shape = record { words = 1; channels = 1; dies = 3; superblocks = 4; pages = 2; z = 64; mb = 3; nb = 6; bytes = 8; rows = 8; within = within };
  session = 0;
  blocks = replicate 4 blank_block;
  rows = replicate 8 Row.Empty;
  sum = replicate 48 0;
  channel = 0;
  entries = [];
  read_levels = pos 0 ∷ negsuc 59 ∷ [];
  iterations = 8;
  step = 10;
  law = record { erased = negsuc 99; programmed = pos 100; spread = 0; seed = 1 };
  weak = weak;
}

-- the start on that channel
abbrev pub blank_start : List Weak → AreWithinLimits → Start
blank_start weak within = record {
  base = small_channel weak within;
  limit = 256;
  cells = [];
  work_faults = replicate 3 0;
  load_faults = replicate 3 0;
  view = None;
}

-- the coding without a code
abbrev pub plain_coding : Coding
plain_coding = record {
  encoded = λ serial row bytes. serial % 256 ∷ row ∷ bytes;
  has_head = λ serial row word. starts_with nat_eq word (serial % 256 ∷ row ∷ []);
  word_bytes = 3;
  words = 1;
  levels = pos 0 ∷ negsuc 59 ∷ [];
  step = 10;
  hard = λ sense f. Some sense;
  soft = λ five f. None;
  joined = flat_map (λ code. code);
  failed = λ word. 0;
}

-- a call, an entry, a page that a row names, and a place
abbrev pub tag_of : ℕ → ℕ → Tag
tag_of actor call = record { actor = actor; call = call }

abbrev pub step : ℕ → ℕ → Kind → Entry
step actor call kind = record { tag = tag_of actor call; kind = kind }

abbrev pub page : ℕ → ℕ → ℕ → Row
page sb index serial = Row.Page (slot_at sb index) serial

abbrev pub place : ℕ → ℕ → ℕ → Place
place die sb page = record { die = die; sb = sb; page = page }

-- each write has its call's number as its data
abbrev pub numbered_contents : ℕ → List (Tag × List ℕ)
numbered_contents calls = map (λ call. (tag_of 0 call, call ∷ [])) (range_with_len 0 calls)

-- a history is lawful on the blank channel with these weak blocks, where pages have the coding without a code
abbrev pub IsLawfulExample : List Weak → List Entry → Type 0
IsLawfulExample weak history =
    (within : AreWithinLimits) → IsLawfulBy (ladder_of plain_coding (blank_start weak within) (numbered_contents 14)) (small_channel weak within) (past_of history)

-- a history isn't
abbrev pub IsUnlawfulExample : List Weak → List Entry → Type 0
IsUnlawfulExample weak history =
    (within : AreWithinLimits) → IsLawfulBy (ladder_of plain_coding (blank_start weak within) (numbered_contents 14)) (small_channel weak within) (past_of history) → ⊥

-- a row is read empty, written, trimmed, and read empty again
abbrev pub trimmed_history : List Entry
trimmed_history =
    step 0 0 (Kind.Look 3 Row.Empty false)
    ∷ step 0 1 (Kind.Write 3 (slot_at 0 0))
    ∷ step 0 2 (Kind.Trim 3)
    ∷ step 0 3 (Kind.Look 3 Row.Empty false)
    ∷ []

-- a row is written twice and read
abbrev pub overwritten_history : List Entry
overwritten_history =
    step 0 0 (Kind.Write 3 (slot_at 0 0))
    ∷ step 0 1 (Kind.Write 3 (slot_at 0 1))
    ∷ step 0 2 (Kind.Look 3 (page 0 1 1) true)
    ∷ step 0 2 (Kind.Sense 2 (place 2 0 0) (pos 0))
    ∷ step 0 2 (Kind.Leave 2)
    ∷ []

-- two superblocks whose blocks on die 0 are weak from the start
abbrev pub weak_on_die_0 : List Weak
weak_on_die_0 =
    record { channel = 0; die = 0; sb = 2; «from» = 0 } ∷ record { channel = 0; die = 0; sb = 3; «from» = 0 } ∷ []

-- calls that make one write collect: thirteen writes, of which the last finds no room
abbrev pub collected_history : List Entry
collected_history =
    step 0 0 (Kind.Write 0 (slot_at 0 0))
    ∷ step 0 1 (Kind.Write 1 (slot_at 0 1))
    ∷ step 0 2 (Kind.Write 2 (slot_at 0 2))
    ∷ step 0 3 (Kind.Write 3 (slot_at 0 3))
    ∷ step 0 4 (Kind.Write 4 (slot_at 1 0))
    ∷ step 0 5 (Kind.Write 5 (slot_at 1 1))
    ∷ step 0 6 (Kind.Write 6 (slot_at 1 2))
    ∷ step 0 7 (Kind.Write 7 (slot_at 1 3))
    ∷ step 0 8 (Kind.Write 0 (slot_at 2 0))
    ∷ step 0 9 (Kind.Write 1 (slot_at 2 1))
    ∷ step 0 10 (Kind.Write 2 (slot_at 2 2))
    ∷ step 0 11 (Kind.Write 4 (slot_at 2 3))
    ∷ step 0 12 (Kind.Pick 0)
    ∷ step 0 12 (Kind.Look 3 (page 0 3 3) true)
    ∷ step 0 12 (Kind.Sense 13 (place 2 0 1) (pos 0))
    ∷ step 0 12 (Kind.Move 13 (slot_at 3 0))
    ∷ step 0 12 (Kind.Leave 13)
    ∷ step 0 12 (Kind.Erase 0)
    ∷ step 0 12 (Kind.Write 5 (slot_at 3 1))
    ∷ []

-- two superblocks are weak on die 0: a write and a copy fail, and the channel is worn
abbrev pub worn_history : List Entry
worn_history =
    step 0 0 (Kind.Write 0 (slot_at 0 0))
    ∷ step 0 1 (Kind.Write 1 (slot_at 0 1))
    ∷ step 0 2 (Kind.Write 2 (slot_at 0 2))
    ∷ step 0 3 (Kind.Write 3 (slot_at 0 3))
    ∷ step 0 4 (Kind.Write 4 (slot_at 1 0))
    ∷ step 0 5 (Kind.Write 5 (slot_at 1 1))
    ∷ step 0 6 (Kind.Write 6 (slot_at 1 2))
    ∷ step 0 7 (Kind.Write 7 (slot_at 1 3))
    ∷ step 0 8 (Kind.BadWrite 0 (slot_at 2 0) 0 false)
    ∷ step 0 8 (Kind.Refused 0 false)
    ∷ step 0 9 (Kind.Trim 1)
    ∷ step 0 10 (Kind.Pick 0)
    ∷ step 0 10 (Kind.Look 0 (page 0 0 0) true)
    ∷ step 0 10 (Kind.Sense 12 (place 1 0 0) (pos 0))
    ∷ step 0 10 (Kind.Move 12 (slot_at 3 0))
    ∷ step 0 10 (Kind.Leave 12)
    ∷ step 0 10 (Kind.Look 2 (page 0 2 2) true)
    ∷ step 0 10 (Kind.Sense 16 (place 0 0 1) (pos 0))
    ∷ step 0 10 (Kind.BadCopy 16 (slot_at 3 1) 0 false)
    ∷ step 0 10 (Kind.Leave 16)
    ∷ step 0 10 (Kind.Look 2 (page 0 2 2) true)
    ∷ step 0 10 (Kind.Sense 20 (place 0 0 1) (pos 0))
    ∷ step 0 10 (Kind.Stay 20 true)
    ∷ step 0 10 (Kind.Leave 20)
    ∷ step 0 10 (Kind.Refused 0 true)
    ∷ step 0 11 (Kind.Look 3 (page 0 3 3) true)
    ∷ step 0 11 (Kind.Sense 25 (place 2 0 1) (pos 0))
    ∷ step 0 11 (Kind.Leave 25)
    ∷ []

-- a look stands in the victim while its rows are trimmed and written anew
abbrev pub pinned_history : List Entry
pinned_history =
    step 0 0 (Kind.Write 0 (slot_at 0 0))
    ∷ step 0 1 (Kind.Write 1 (slot_at 0 1))
    ∷ step 0 2 (Kind.Write 2 (slot_at 0 2))
    ∷ step 0 3 (Kind.Write 3 (slot_at 0 3))
    ∷ step 1 0 (Kind.Look 0 (page 0 0 0) true)
    ∷ step 1 0 (Kind.Sense 4 (place 1 0 0) (pos 0))
    ∷ step 0 4 (Kind.Trim 0)
    ∷ step 0 5 (Kind.Trim 1)
    ∷ step 0 6 (Kind.Trim 2)
    ∷ step 0 7 (Kind.Trim 3)
    ∷ step 2 0 (Kind.Pick 0)
    ∷ step 0 8 (Kind.Write 0 (slot_at 1 0))
    ∷ step 1 0 (Kind.Changed 4 (page 1 0 8))
    ∷ step 1 0 (Kind.Leave 4)
    ∷ step 2 0 (Kind.Erase 0)
    ∷ []

-- a die's call fails in a sense
abbrev pub faulted_history : List Entry
faulted_history =
    step 0 0 (Kind.Write 0 (slot_at 0 0))
    ∷ step 0 1 (Kind.Look 0 (page 0 0 0) false)
    ∷ step 0 1 (Kind.FaultSense 1 (place 1 0 0) (pos 0))
    ∷ step 0 1 (Kind.Leave 1)
    ∷ step 0 2 (Kind.Look 0 (page 0 0 0) false)
    ∷ step 0 2 (Kind.Sense 4 (place 1 0 0) (pos 0))
    ∷ step 0 2 (Kind.Leave 4)
    ∷ []

-- a collect of a blank channel has nothing to do
abbrev pub idle_history : List Entry
idle_history =
    step 0 0 (Kind.Note 4 None 0 0 0)
    ∷ []

-- a collect copies the one live page of a superblock and erases it
abbrev pub freed_history : List Entry
freed_history =
    step 0 0 (Kind.Write 0 (slot_at 0 0))
    ∷ step 0 1 (Kind.Write 0 (slot_at 0 1))
    ∷ step 0 2 (Kind.Write 0 (slot_at 0 2))
    ∷ step 0 3 (Kind.Write 0 (slot_at 0 3))
    ∷ step 0 4 (Kind.Write 1 (slot_at 1 0))
    ∷ step 0 5 (Kind.Pick 0)
    ∷ step 0 5 (Kind.Look 0 (page 0 3 3) true)
    ∷ step 0 5 (Kind.Sense 6 (place 2 0 1) (pos 0))
    ∷ step 0 5 (Kind.Move 6 (slot_at 1 1))
    ∷ step 0 5 (Kind.Leave 6)
    ∷ step 0 5 (Kind.Erase 0)
    ∷ []
