-- Which bytes are the contents of a channel in an image, what do they mean, and what is the first fault of those that
-- aren't? For each superblock there stand its state, its erases, its used slots, for each die the number of programmed
-- pages and then their levels, and for a frontier with an open stripe the sum of the data words there; then the rows
-- of the page map. The format is this project's own.
use Rattle.std.specs.Prelude.{◌≡◌, ⊤, IsTrue, true, ℕ, zero, suc, ◌+◌, ◌-◌, ◌%◌, ◌^◌, ◌==◌, nat_lt, Bool, ◌&&◌, ◌||◌, not, if◌then◌else◌, List, [], ◌∷◌, ◌++◌, length, map, flat_map, find, replicate, slice_index_or, ℤ, Option, Some, None, Ok}
use Rattle.std.specs.List.{enumerate_from, list_any, list_all, range_with_len}
use Rattle.std.specs.Option.{option_map_or}
use Rattle.std.specs.Int.{w8, w16, w32, w64, to_le_bytes, from_le_bytes}
use Rattle.ssd_geo.specs.BlockCells.{blank_cells, BlockCells}
use Rattle.ssd_histories.specs.Blocks.{block_at, has_due_used, is_frontier_block, is_victim_block}
use Rattle.ssd_geo.specs.Codewords.{failed_checks}
use Rattle.ssd_formats.specs.Fields.{are_bytes, Rest, Fault, Reading, ◌>>=◌, field_or, number_or, number_field, passing, bytes_of_signed, is_any, is_below, level_fields}
use Rattle.ssd_geo.specs.Limits.{Sizes, is_within, is_level, page_cells_of, word_bytes_of}
use Rattle.ssd_geo.specs.PageWord.{codes_in}
use Rattle.ssd_geo.specs.Shape.{sizes_of}
use Rattle.ssd_formats.specs.ImageHead.{IsHead, Head, head_bytes, matrix_of_head, read_head}
use Rattle.ssd_formats.specs.InputFaults as faults
use Rattle.ssd_histories.specs.PageMap.{names_slot}
use Rattle.ssd_histories.specs.States.{is_bad, is_frontier, is_victim}
use Rattle.ssd_geo.specs.StripeSum.{zero_word}
use Rattle.ssd_geo.specs.Superblock.{slots_of, due_pages}
use Rattle.ssd_geo.specs.declared.base.BlockBase.{BlockBase}
use Rattle.ssd_geo.specs.declared.base.ChannelBase.{ChannelBase}
use Rattle.ssd_geo.specs.declared.row.Row.{Row}
use Rattle.ssd_geo.specs.declared.row.Row.TheVariants.{Empty, Lost, Page}
use Rattle.ssd_geo.specs.declared.slot.Slot.{Slot}
use Rattle.ssd_geo.specs.declared.superblock.SbState.{SbState}
use Rattle.ssd_geo.specs.declared.superblock.SbState.TheVariants.{Free, Frontier, Sealed, Bad, Victim}

-- what an image tells of a superblock: as the channel's base has it; for each die the levels of its programmed pages,
-- which are its first; and the sum of the data words of its open stripe, or no bytes where it has none
pub record SavedBlock : Type 0 where
  pub block : BlockBase
  pub pages : List (List (List ℤ))
  pub sum : List ℕ

-- what an image tells of a channel
pub record ChannelImage : Type 0 where
  pub blocks : List SavedBlock
  pub rows : List Row

-- the number of data slots of a superblock
abbrev pub slots_of_sizes : Sizes → ℕ
slots_of_sizes sizes = slots_of sizes.pages sizes.dies

-- the state that a number stands for, and back
abbrev pub state_of_number : ℕ → Option SbState
state_of_number n =
    if n == 0 then Some Free
    else if n == 1 then Some Frontier
    else if n == 2 then Some Sealed
    else if n == 3 then Some Bad
    else if n == 4 then Some Victim
    else None

abbrev pub number_of_state : SbState → ℕ
number_of_state Free = 0
number_of_state Frontier = 1
number_of_state Sealed = 2
number_of_state Bad = 3
number_of_state Victim = 4

-- the superblocks as the base of a channel has them
abbrev pub blocks_of_saved : List SavedBlock → List BlockBase
blocks_of_saved blocks = map (λ saved. saved.block) blocks

-- whether a superblock of a channel is factory bad
abbrev pub is_factory_bad : Head → ℕ → ℕ → Bool
is_factory_bad head channel sb = list_any (λ bad. bad.0 == channel && bad.1 == sb) head.bad

-- whether some superblock before is in the state, for the states that at most one has
abbrev pub has_before : (BlockBase → Bool) → List SavedBlock → Bool
has_before test before = list_any test (blocks_of_saved before)

-- whether the superblock after those before may be in this state: a channel has at most one frontier and one victim,
-- and a factory bad superblock is bad
abbrev pub may_be : Head → ℕ → List SavedBlock → SbState → Bool
may_be head channel before state =
    not (is_frontier state && has_before is_frontier_block before)
    && not (is_victim state && has_before is_victim_block before)
    && (is_bad state || not (is_factory_bad head channel (length before)))

-- the state that the bytes of a field stand for, if the superblock after those before may be in it
abbrev pub state_of_bytes : Head → ℕ → List SavedBlock → List ℕ → Option SbState
state_of_bytes head channel before bytes =
    option_map_or (passing (may_be head channel before)) (state_of_number (from_le_bytes w8 bytes)) None

abbrev pub state_field : Head → ℕ → List SavedBlock → Rest → Reading SbState
state_field head channel before rest = field_or (rest.place, faults.state) 1 (state_of_bytes head channel before) rest

-- whether a die may have so many programmed pages of a superblock: the due number, and in a bad one as many or more
abbrev pub is_programmed_count : Sizes → SbState → ℕ → ℕ → ℕ → ℕ → Bool
is_programmed_count sizes state sb used die n =
    let due = due_pages sizes.dies sb used die in if is_bad state then is_within due sizes.pages n else n == due

-- the numbers of programmed pages of so many more dies, after those before
unfoldable pub programmed_fields : Sizes → SbState → ℕ → ℕ → ℕ → List ℕ → Rest → Reading (List ℕ)
programmed_fields sizes state sb used zero before rest = Ok (before, rest)
programmed_fields sizes state sb used (suc n) before rest = do
  programmed ← number_or (rest.place, faults.count) w16 (is_programmed_count sizes state sb used (length before)) rest
  programmed_fields sizes state sb used n (before ++ programmed.0 ∷ []) programmed.1

-- the levels of so many pages of these cells, after those before
unfoldable pub page_fields : ℕ → ℕ → List (List ℤ) → Rest → Reading (List (List ℤ))
page_fields cells zero before rest = Ok (before, rest)
page_fields cells (suc n) before rest = do
  page ← level_fields cells [] rest
  page_fields cells n (before ++ page.0 ∷ []) page.1

-- the pages of dies with these numbers of them, after those of the dies before
unfoldable pub die_fields : ℕ → List ℕ → List (List (List ℤ)) → Rest → Reading (List (List (List ℤ)))
die_fields cells [] before rest = Ok (before, rest)
die_fields cells (programmed ∷ others) before rest = do
  pages ← page_fields cells programmed [] rest
  die_fields cells others (before ++ pages.0 ∷ []) pages.1

-- whether a superblock has an open stripe: it is the frontier, and some slots of a stripe are used but not all
abbrev pub is_stripe_open : Sizes → BlockBase → Bool
is_stripe_open sizes block = is_frontier block.state && not (block.used % (sizes.dies - 1) == 0)

-- whether bytes are a page's word: each of its codewords fails no check
abbrev pub is_page_word : Head → List ℕ → Bool
is_page_word head bytes = list_all (λ code. failed_checks (matrix_of_head head) code == 0) (codes_in head.sizes bytes)

-- the sum of the data words of the open stripe, where there is one: a page's word
abbrev pub sum_field : Head → BlockBase → Rest → Reading (List ℕ)
sum_field head block rest =
    if is_stripe_open head.sizes block
    then field_or (rest.place, faults.sum) (word_bytes_of head.sizes) (passing (is_page_word head)) rest
    else Ok ([], rest)

-- the superblock after those before
unfoldable pub block_fields : Head → ℕ → List SavedBlock → Rest → Reading SavedBlock
block_fields head channel before rest = do
  state ← state_field head channel before rest
  erases ← number_field w32 (is_within 0 (2 ^ 31)) state.1
  used ← number_or (erases.1.place, faults.count) w32 (has_due_used (slots_of_sizes head.sizes) state.0) erases.1
  programmed ← programmed_fields head.sizes state.0 (length before) used.0 head.sizes.dies [] used.1
  pages ← die_fields (page_cells_of head.sizes) programmed.0 [] programmed.1
  sum ← sum_field head (record { state = state.0; erases = erases.0; used = used.0 }) pages.1
  Ok (
    record {
      block = record { state = state.0; erases = erases.0; used = used.0 };
      pages = pages.0;
      sum = sum.0;
    },
    sum.1,
  )

-- so many more superblocks, after those before
unfoldable pub blocks_fields : Head → ℕ → ℕ → List SavedBlock → Rest → Reading (List SavedBlock)
blocks_fields head channel zero before rest = Ok (before, rest)
blocks_fields head channel (suc n) before rest = do
  block ← block_fields head channel before rest
  blocks_fields head channel n (before ++ block.0 ∷ []) block.1

-- whether a row may name this slot: it is used, and no row before names it
abbrev pub may_name : List BlockBase → List Row → Slot → Bool
may_name blocks before slot = nat_lt slot.index (block_at blocks slot.sb).used && not (list_any (names_slot slot) before)

-- a row that names a page; where its slot can't be, the fault is at the row's first byte
unfoldable pub page_row : Sizes → List BlockBase → List Row → Fault → Rest → Reading Row
page_row sizes blocks before fault rest = do
  sb ← number_or fault w16 (is_below sizes.superblocks) rest
  index ← number_or fault w32 (λ index. may_name blocks before (record { sb = sb.0; index = index })) sb.1
  serial ← number_field w64 is_any index.1
  Ok (Page (record { sb = sb.0; index = index.0 }) serial.0, serial.1)

-- the row after those before: empty, a page or lost
unfoldable pub row_field : Sizes → List BlockBase → List Row → Rest → Reading Row
row_field sizes blocks before rest = do
  kind ← number_or (rest.place, faults.row) w8 (is_within 0 2) rest
  if kind.0 == 0 then Ok (Empty, kind.1) else if kind.0 == 1 then page_row sizes blocks before (rest.place, faults.row) kind.1 else Ok (Lost, kind.1)

-- so many more rows, after those before
unfoldable pub row_fields : Sizes → List BlockBase → ℕ → List Row → Rest → Reading (List Row)
row_fields sizes blocks zero before rest = Ok (before, rest)
row_fields sizes blocks (suc n) before rest = do
  row ← row_field sizes blocks before rest
  row_fields sizes blocks n (before ++ row.0 ∷ []) row.1

-- the contents of a channel
unfoldable pub channel_fields : Head → ℕ → Rest → Reading ChannelImage
channel_fields head channel rest = do
  blocks ← blocks_fields head channel head.sizes.superblocks [] rest
  rows ← row_fields head.sizes (blocks_of_saved blocks.0) head.sizes.rows [] blocks.1
  Ok (record { blocks = blocks.0; rows = rows.0 }, rows.1)

-- a superblock of a blank drive: it is free, or bad where it is factory bad, was never erased and has no page
abbrev pub blank_saved : Head → ℕ → ℕ → SavedBlock
blank_saved head channel sb = record {
  block = record { state = (if is_factory_bad head channel sb then Bad else Free); erases = 0; used = 0 };
  pages = replicate head.sizes.dies [];
  sum = [];
}

-- what an image without contents tells of a channel: all rows are empty
abbrev pub blank_channel : Head → ℕ → ChannelImage
blank_channel head channel = record {
  blocks = map (blank_saved head channel) (range_with_len 0 head.sizes.superblocks);
  rows = replicate head.sizes.rows Empty;
}

-- what is read of a channel after a head: its contents where the image is full, and of a blank one nothing
abbrev pub read_channel : Head → ℕ → Rest → Reading ChannelImage
read_channel head channel rest =
    if head.full then channel_fields head channel rest else Ok (blank_channel head channel, rest)

-- so many more channels, after those before
unfoldable pub read_channels : Head → ℕ → List ChannelImage → Rest → Reading (List ChannelImage)
read_channels head zero before rest = Ok (before, rest)
read_channels head (suc n) before rest = do
  channel ← read_channel head (length before) rest
  read_channels head n (before ++ channel.0 ∷ []) channel.1

-- an image: its head and what it tells of each channel
unfoldable pub read_image : List ℕ → Reading (Head × List ChannelImage)
read_image bytes = do
  head ← read_head bytes
  channels ← read_channels head.0 head.0.sizes.channels [] head.1
  Ok ((head.0, channels.0), channels.1)

-- the sum of the data words of a channel's open stripe, or zeros where no stripe is open
abbrev pub sum_of_saved : Sizes → ChannelImage → List ℕ
sum_of_saved sizes saved =
    option_map_or (λ block. block.sum) (find (λ block. is_stripe_open sizes block.block) saved.blocks)
    (zero_word (word_bytes_of sizes))

-- the cells of a die's block
abbrev pub cells_of_block : ℕ → SavedBlock → BlockCells
cells_of_block die saved = record { erases = saved.block.erases; pages = slice_index_or saved.pages die [] }

-- the cells of a channel's dies, block by block
abbrev pub cells_of_saved : Sizes → ChannelImage → List (List BlockCells)
cells_of_saved sizes saved = map (λ die. map (cells_of_block die) saved.blocks) (range_with_len 0 sizes.dies)

-- a channel begins with this base: what an image tells of the channel, and the fields of its head
pub record IsBaseOf (head : Head) (channel : ℕ) (saved : ChannelImage) (base : ChannelBase) : Type 0 where
  pub shape : sizes_of base.shape ≡ head.sizes
  pub session : base.session ≡ head.session
  pub blocks : base.blocks ≡ blocks_of_saved saved.blocks
  pub rows : base.rows ≡ saved.rows
  pub sum : base.sum ≡ sum_of_saved head.sizes saved
  pub number : base.channel ≡ channel
  pub entries : base.entries ≡ head.entries
  pub read_levels : base.read_levels ≡ head.read_levels
  pub iterations : base.iterations ≡ head.iterations
  pub step : base.step ≡ head.step
  pub law : base.law ≡ head.law
  pub weak : base.weak ≡ head.weak

-- the bytes of pages, one after the other
abbrev pub pages_bytes : List (List ℤ) → List ℕ
pages_bytes pages = flat_map (flat_map bytes_of_signed) pages

-- the bytes of a superblock
abbrev pub block_bytes : SavedBlock → List ℕ
block_bytes saved =
    to_le_bytes w8 (number_of_state saved.block.state) ++
    to_le_bytes w32 saved.block.erases ++
    to_le_bytes w32 saved.block.used ++
    flat_map (λ pages. to_le_bytes w16 (length pages)) saved.pages ++
    flat_map pages_bytes saved.pages ++
    saved.sum

-- the bytes of a row
abbrev pub row_bytes : Row → List ℕ
row_bytes Empty = to_le_bytes w8 0
row_bytes (Page slot serial) =
    to_le_bytes w8 1 ++ to_le_bytes w16 slot.sb ++ to_le_bytes w32 slot.index ++ to_le_bytes w64 serial
row_bytes Lost = to_le_bytes w8 2

-- the bytes of a channel's contents
unfoldable pub channel_bytes : ChannelImage → List ℕ
channel_bytes saved = flat_map block_bytes saved.blocks ++ flat_map row_bytes saved.rows

-- the bytes of a full image
abbrev pub image_bytes : Head → List ChannelImage → List ℕ
image_bytes head channels = head_bytes head ++ flat_map channel_bytes channels

-- the pages that a die's blocks have in a superblock
abbrev pub pages_at : ℕ → List BlockCells → List (List ℤ)
pages_at sb blocks = let cells : BlockCells = slice_index_or blocks sb blank_cells in cells.pages

-- what a channel is saved as: each superblock of its base with the pages of its dies, the running sum at the one with
-- an open stripe, and the rows of its base
abbrev pub saved_block : Sizes → List ℕ → List (List BlockCells) → ℕ × BlockBase → SavedBlock
saved_block sizes sum cells numbered = record {
  block = numbered.1;
  pages = map (pages_at numbered.0) cells;
  sum = (if is_stripe_open sizes numbered.1 then sum else []);
}

abbrev pub saved_channel : ChannelBase → List (List BlockCells) → ChannelImage
saved_channel base cells = record {
  blocks = map (saved_block (sizes_of base.shape) base.sum cells) (enumerate_from 0 base.blocks);
  rows = base.rows;
}

-- whether dies may have so many programmed pages of a superblock, after those of the dies before
abbrev pub are_programmed_counts : Sizes → SbState → ℕ → ℕ → List ℕ → List ℕ → Bool
are_programmed_counts sizes state sb used before [] = true
are_programmed_counts sizes state sb used before (n ∷ counts) =
    is_programmed_count sizes state sb used (length before) n && is_within 0 sizes.pages n
    && are_programmed_counts sizes state sb used (before ++ n ∷ []) counts

-- whether these are levels of so many cells
abbrev pub is_page : ℕ → List ℤ → Bool
is_page cells page = length page == cells && list_all is_level page

abbrev pub are_pages : ℕ → List (List ℤ) → Bool
are_pages cells pages = list_all (is_page cells) pages

-- whether these bytes may be the sum of a superblock's open stripe, if it has one
abbrev pub is_sum : Head → BlockBase → List ℕ → Bool
is_sum head block word =
    if is_stripe_open head.sizes block
    then length word == word_bytes_of head.sizes && is_page_word head word
    else length word == 0

-- whether a superblock may stand in an image, after those before
abbrev pub is_saved_block : Head → ℕ → List SavedBlock → SavedBlock → Bool
is_saved_block head channel before saved =
    may_be head channel before saved.block.state
    && is_within 0 (2 ^ 31) saved.block.erases
    && is_below (2 ^ 32) saved.block.used
    && has_due_used (slots_of_sizes head.sizes) saved.block.state saved.block.used
    && length saved.pages == head.sizes.dies
    && are_programmed_counts head.sizes saved.block.state (length before) saved.block.used [] (map length saved.pages)
    && list_all (are_pages (page_cells_of head.sizes)) saved.pages
    && is_sum head saved.block saved.sum

abbrev pub are_saved_blocks : Head → ℕ → List SavedBlock → List SavedBlock → Bool
are_saved_blocks head channel before [] = true
are_saved_blocks head channel before (saved ∷ more) =
    is_saved_block head channel before saved && are_saved_blocks head channel (before ++ saved ∷ []) more

-- whether a row may stand in an image, after those before
abbrev pub is_saved_row : Sizes → List BlockBase → List Row → Row → Bool
is_saved_row sizes blocks before Empty = true
is_saved_row sizes blocks before Lost = true
is_saved_row sizes blocks before (Page slot serial) =
    is_below sizes.superblocks slot.sb && is_below (2 ^ 32) slot.index && is_below (2 ^ 64) serial
    && may_name blocks before slot

abbrev pub are_saved_rows : Sizes → List BlockBase → List Row → List Row → Bool
are_saved_rows sizes blocks before [] = true
are_saved_rows sizes blocks before (row ∷ more) =
    is_saved_row sizes blocks before row && are_saved_rows sizes blocks (before ++ row ∷ []) more

-- what has a spelling as the contents of a channel
pub record IsSaved (head : Head) (channel : ℕ) (saved : ChannelImage) : Type 0 where
  pub block_count : length saved.blocks ≡ head.sizes.superblocks
  pub blocks : IsTrue (are_saved_blocks head channel [] saved.blocks)
  pub row_count : length saved.rows ≡ head.sizes.rows
  pub rows : IsTrue (are_saved_rows head.sizes (blocks_of_saved saved.blocks) [] saved.rows)

-- contents that were written are read again, whatever follows
abbrev pub ContentsAreRead : Type 0
ContentsAreRead =
    (head : Head) (channel : ℕ) (saved : ChannelImage) (place : ℕ) (more : List ℕ) → IsHead head → IsSaved head channel saved →
    channel_fields head channel (record { place = place; bytes = channel_bytes saved ++ more })
    ≡ Ok (saved, record { place = place + length (channel_bytes saved); bytes = more })

-- these are contents of so many channels, after those before
abbrev pub AreSaved : Head → List ChannelImage → List ChannelImage → Type 0
AreSaved head before [] = ⊤
AreSaved head before (saved ∷ more) = IsSaved head (length before) saved × AreSaved head (before ++ saved ∷ []) more

-- a full image that was written is read again, whatever follows
abbrev pub ImageIsRead : Type 0
ImageIsRead =
    (head : Head) (channels : List ChannelImage) (more : List ℕ) → IsHead head → IsTrue head.full →
    length channels ≡ head.sizes.channels → AreSaved head [] channels →
    read_image (image_bytes head channels ++ more)
    ≡ Ok ((head, channels), record { place = length (image_bytes head channels); bytes = more })

-- contents that were read from bytes have a spelling
abbrev pub ContentsHaveSpelling : Type 0
ContentsHaveSpelling =
    (head : Head) (channel : ℕ) (rest left : Rest) (saved : ChannelImage) → IsTrue (are_bytes rest.bytes) →
    channel_fields head channel rest ≡ Ok (saved, left) → IsSaved head channel saved
