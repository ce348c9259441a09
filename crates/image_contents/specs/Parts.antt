-- In which parts are the contents of a channel read? Of a superblock first what stands before its pages, then the pages,
-- then the sum of its open stripe. Of the superblocks before it only their bases count.
use Rattle.std.specs.Prelude.{◌≡◌, ℕ, ℤ, pos, ◌^◌, ◌<◌, ◌≤◌, IsTrue, All, Bool, false, take, slice_index_or, not, ◌&&◌, ◌||◌, List, [], length, None, Ok, ◌==◌}
use Rattle.std.specs.Int.{w8, w16, w32, from_le_bytes}
use Rattle.std.specs.List.{list_all, list_any}
use Rattle.std.specs.Option.{option_map_or}
use Rattle.ssd_geo.specs.BaseMatrix.{BaseMatrix}
use Rattle.ssd_geo.specs.Codewords.{failed_checks}
use Rattle.ssd_geo.specs.PageWord.{codes_in}
use Rattle.ssd_geo.specs.Limits.{Sizes, is_level, is_within, page_cells_of, word_bytes_of}
use Rattle.ssd_histories.specs.Blocks.{has_due_used, is_frontier_block, is_victim_block}
use Rattle.ssd_histories.specs.States.{is_bad, is_frontier, is_victim}
use Rattle.ssd_formats.specs.Fields.{Reading, Rest, ◌>>=◌, field_or, is_below, number_field, number_or, passing}
use Rattle.ssd_formats.specs.ImageContents.{SavedBlock, are_programmed_counts, die_fields, is_factory_bad, is_page_word, is_programmed_count, may_name, programmed_fields, slots_of_sizes, state_of_number, sum_field}
use Rattle.ssd_formats.specs.ImageHead.{Head}
use Rattle.ssd_formats.specs.InputFaults as faults
use Rattle.ssd_geo.specs.declared.base.BlockBase.{BlockBase}
use Rattle.ssd_geo.specs.declared.row.Row.{Row}
use Rattle.ssd_geo.specs.declared.slot.Slot.{Slot}
use Rattle.ssd_geo.specs.declared.superblock.SbState.{SbState}

-- whether the superblock after these may be in a state
abbrev pub may_follow : Head → ℕ → List BlockBase → SbState → Bool
may_follow head channel before state =
    not (is_frontier state && list_any is_frontier_block before)
    && not (is_victim state && list_any is_victim_block before)
    && (is_bad state || not (is_factory_bad head channel (length before)))

-- the state of the superblock after these
abbrev pub state_after : Head → ℕ → List BlockBase → Rest → Reading SbState
state_after head channel before rest =
    field_or (rest.place, faults.state) 1
    (λ bytes. option_map_or (passing (may_follow head channel before)) (state_of_number (from_le_bytes w8 bytes)) None) rest

-- the used slots of a superblock in a state
abbrev pub used_field : Sizes → SbState → Rest → Reading ℕ
used_field sizes state rest = number_or (rest.place, faults.count) w32 (has_due_used (slots_of_sizes sizes) state) rest

-- the number of programmed pages of one die's block of a superblock
abbrev pub count_field : Sizes → BlockBase → ℕ → ℕ → Rest → Reading ℕ
count_field sizes block sb die rest =
    number_or (rest.place, faults.count) w16 (is_programmed_count sizes block.state sb block.used die) rest

-- what stands before the pages of a superblock: its base, and the number of programmed pages of each die's block
pub record Front : Type 0 where
  pub block : BlockBase
  pub programmed : List ℕ

-- the front with a base and numbers of pages
abbrev pub front_of : BlockBase → List ℕ → Front
front_of block counts = record { block = block; programmed = counts }

-- a front that was read is in range
pub record IsFront (head : Head) (channel : ℕ) (before : List BlockBase) (block : BlockBase) (counts : List ℕ) : Type 0 where
  pub may_be : IsTrue (may_follow head channel before block.state)
  pub erases : block.erases ≤ 2 ^ 31
  pub used : IsTrue (has_due_used (slots_of_sizes head.sizes) block.state block.used)
  pub counts_are : IsTrue (are_programmed_counts head.sizes block.state (length before) block.used [] counts)

-- the front of the superblock after these
unfoldable pub front_after : Head → ℕ → List BlockBase → Rest → Reading Front
front_after head channel before rest = do
  state ← state_after head channel before rest
  erases ← number_field w32 (is_within 0 (2 ^ 31)) state.1
  used ← used_field head.sizes state.0 erases.1
  programmed ← programmed_fields head.sizes state.0 (length before) used.0 head.sizes.dies [] used.1
  Ok (
    record {
      block = record { state = state.0; erases = erases.0; used = used.0 };
      programmed = programmed.0;
    },
    programmed.1,
  )

-- whether each codeword of a page's word fails no check of a base matrix
abbrev pub is_word_of : BaseMatrix → Sizes → List ℕ → Bool
is_word_of m sizes word = list_all (λ code. failed_checks m code == 0) (codes_in sizes word)

-- a page's word
abbrev pub word_field : Head → Rest → Reading (List ℕ)
word_field head rest = field_or (rest.place, faults.sum) (word_bytes_of head.sizes) (passing (is_page_word head)) rest

-- the superblock after these
unfoldable pub block_after : Head → ℕ → List BlockBase → Rest → Reading SavedBlock
block_after head channel before rest = do
  front ← front_after head channel before rest
  pages ← die_fields (page_cells_of head.sizes) front.0.programmed [] front.1
  sum ← sum_field head front.0.block pages.1
  Ok (record { block = front.0.block; pages = pages.0; sum = sum.0 }, sum.1)

-- the first of some numbers that no cell may have as its level is the one with this number
pub record IsFirstOutside (levels : List ℤ) (i : ℕ) : Type 0 where
  pub within : i < length levels
  pub before : IsTrue (list_all is_level (take i levels))
  pub outside : is_level (slice_index_or levels i (pos 0)) ≡ false

-- the slot that a row names whose first byte is at a place: it is used, and no row before names it
unfoldable pub slot_field : Sizes → List BlockBase → List Row → ℕ → Rest → Reading Slot
slot_field sizes blocks before row rest = do
  sb ← number_or (row, faults.row) w16 (is_below sizes.superblocks) rest
  index ← number_or (row, faults.row) w32 (λ index. may_name blocks before (record { sb = sb.0; index = index })) sb.1
  Ok (record { sb = sb.0; index = index.0 }, index.1)

-- a page map of so many superblocks, each with so many slots, fits the superblocks of a channel: none has more slots used
pub record FitsRows (sizes : Sizes) (blocks : List BlockBase) (superblocks slots : ℕ) : Type 0 where
  pub superblocks_are : superblocks ≡ sizes.superblocks
  pub slots_are : slots ≡ slots_of_sizes sizes
  pub count : length blocks ≡ sizes.superblocks
  pub used : All (λ block. block.used ≤ slots_of_sizes sizes) blocks
