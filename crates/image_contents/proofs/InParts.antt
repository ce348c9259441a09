-- A superblock and a row are read in parts.
use Rattle.std.proofs.Common.{◌≡◌, ◌^◌, ℕ, ℤ, List, [], length, None, Ok, Err, refl, sym, ap, ◌∙◌, ◌&&◌, ◌||◌, not}
use Rattle.std.proofs.lemmas.List.{length-map}
use Rattle.std.specs.Int.{w8, w16, w32, w64, from_le_bytes}
use Rattle.std.specs.List.{list_any}
use Rattle.std.specs.Option.{option_map_or}
use Rattle.ssd_histories.specs.Blocks.{is_frontier_block, is_victim_block}
use Rattle.ssd_histories.specs.States.{is_bad, is_frontier, is_victim}
use Rattle.ssd_formats.specs.Fields.{Fault, Reading, Rest, ◌>>=◌, field_or, is_any, is_below, number_field, number_or, passing}
use Rattle.ssd_formats.specs.ImageContents.{SavedBlock, block_fields, blocks_fields, blocks_of_saved, channel_fields, die_fields, is_factory_bad, may_name, page_row, programmed_fields, row_fields, state_field, state_of_number, sum_field}
use Rattle.ssd_formats.specs.ImageHead.{Head}
use Rattle.ssd_formats.specs.InputFaults as faults
use Rattle.ssd_geo.specs.Limits.{Sizes, is_within, page_cells_of}
use Rattle.ssd_geo.specs.declared.base.BlockBase.{BlockBase}
use Rattle.ssd_geo.specs.declared.row.Row.{Row}
use Rattle.ssd_geo.specs.declared.row.Row.TheVariants.{Page}
use Rattle.image_file.proofs.FixedParts.{ahead}
use Rattle.image_contents.specs.Parts.{Front, block_after, front_after, front_of, slot_field, used_field}

-- what is read behind the front of a superblock
abbrev after_front : Head → Front × Rest → Reading SavedBlock
after_front head front =
    die_fields (page_cells_of head.sizes) front.0.programmed [] front.1 >>= (λ pages.
    sum_field head front.0.block pages.1 >>= (λ sum.
    Ok (record { block = front.0.block; pages = pages.0; sum = sum.0 }, sum.1)))

-- the superblock of a number behind others
abbrev block_of_number : Head → ℕ → List BlockBase → ℕ → Rest → Reading SavedBlock
block_of_number head channel before n rest =
    field_or (rest.place, faults.state) 1
    (λ bytes. option_map_or
    (passing (λ state.
    not (is_frontier state && list_any is_frontier_block before) && not (is_victim state && list_any is_victim_block before)
    && (is_bad state || not (is_factory_bad head channel n))))
    (state_of_number (from_le_bytes w8 bytes)) None) rest
    >>= (λ state. number_field w32 (is_within 0 (2 ^ 31)) state.1
    >>= (λ erases. used_field head.sizes state.0 erases.1
    >>= (λ used. programmed_fields head.sizes state.0 n used.0 head.sizes.dies [] used.1
    >>= (λ programmed. Ok (front_of (record { state = state.0; erases = erases.0; used = used.0 }) programmed.0, programmed.1)))))
    >>= after_front head

in_parts : (head : Head) (channel : ℕ) (before : List SavedBlock) (rest : Rest)
    → block_fields head channel before rest ≡ block_of_number head channel (blocks_of_saved before) (length before) rest
unfolding block_fields
in_parts head channel before rest =
    ahead (state_field head channel before rest) _ (after_front head) _ (λ state.
    ahead (number_field w32 (is_within 0 (2 ^ 31)) state.1) _ (after_front head) _ (λ erases.
    ahead (used_field head.sizes state.0 erases.1) _ (after_front head) _ (λ used.
    ahead (programmed_fields head.sizes state.0 (length before) used.0 head.sizes.dies [] used.1)
    (λ (programmed : List ℕ × Rest). Ok (front_of (record { state = state.0; erases = erases.0; used = used.0 }) programmed.0, programmed.1))
    (after_front head) _ (λ programmed. refl))))

pub block_in_parts : (head : Head) (channel : ℕ) (before : List SavedBlock) (rest : Rest) → block_fields head channel before rest ≡ block_after head channel (blocks_of_saved before) rest
unfolding block_after front_after
block_in_parts head channel before rest =
    in_parts head channel before rest
    ∙ ap (λ (n : ℕ). block_of_number head channel (blocks_of_saved before) n rest) (sym (length-map before (λ (saved : SavedBlock). saved.block)))

-- the parts of a superblock that were read, and the first that wasn't
pub block_read : (head : Head) (channel : ℕ) (before : List BlockBase) (rest first second last : Rest) (front : Front) (pages : List (List (List ℤ))) (sum : List ℕ)
    → front_after head channel before rest ≡ Ok (front, first) → die_fields (page_cells_of head.sizes) front.programmed [] first ≡ Ok (pages, second)
    → sum_field head front.block second ≡ Ok (sum, last)
    → block_after head channel before rest ≡ Ok (record { block = front.block; pages = pages; sum = sum }, last)
unfolding block_after
block_read head channel before rest first second last front pages sum read_front read_pages read_sum = rw (read_front, read_pages, read_sum) refl

pub front_lacks : (head : Head) (channel : ℕ) (before : List BlockBase) (rest : Rest) (fault : Fault) → front_after head channel before rest ≡ Err fault
    → block_after head channel before rest ≡ Err fault
unfolding block_after
front_lacks head channel before rest fault read = rw read refl

pub pages_lack : (head : Head) (channel : ℕ) (before : List BlockBase) (rest first : Rest) (front : Front) (fault : Fault)
    → front_after head channel before rest ≡ Ok (front, first) → die_fields (page_cells_of head.sizes) front.programmed [] first ≡ Err fault
    → block_after head channel before rest ≡ Err fault
unfolding block_after
pages_lack head channel before rest first front fault read_front read_pages = rw (read_front, read_pages) refl

pub sum_lacks : (head : Head) (channel : ℕ) (before : List BlockBase) (rest first second : Rest) (front : Front) (pages : List (List (List ℤ))) (fault : Fault)
    → front_after head channel before rest ≡ Ok (front, first) → die_fields (page_cells_of head.sizes) front.programmed [] first ≡ Ok (pages, second)
    → sum_field head front.block second ≡ Err fault → block_after head channel before rest ≡ Err fault
unfolding block_after
sum_lacks head channel before rest first second front pages fault read_front read_pages read_sum = rw (read_front, read_pages, read_sum) refl

-- the same of a channel
pub channel_read : (head : Head) (channel : ℕ) (rest first last : Rest) (blocks : List SavedBlock) (rows : List Row)
    → blocks_fields head channel head.sizes.superblocks [] rest ≡ Ok (blocks, first) → row_fields head.sizes (blocks_of_saved blocks) head.sizes.rows [] first ≡ Ok (rows, last)
    → channel_fields head channel rest ≡ Ok (record { blocks = blocks; rows = rows }, last)
unfolding channel_fields
channel_read head channel rest first last blocks rows read_blocks read_rows = rw (read_blocks, read_rows) refl

pub blocks_lack : (head : Head) (channel : ℕ) (rest : Rest) (fault : Fault) → blocks_fields head channel head.sizes.superblocks [] rest ≡ Err fault
    → channel_fields head channel rest ≡ Err fault
unfolding channel_fields
blocks_lack head channel rest fault read = rw read refl

pub rows_lack : (head : Head) (channel : ℕ) (rest first : Rest) (blocks : List SavedBlock) (fault : Fault)
    → blocks_fields head channel head.sizes.superblocks [] rest ≡ Ok (blocks, first) → row_fields head.sizes (blocks_of_saved blocks) head.sizes.rows [] first ≡ Err fault
    → channel_fields head channel rest ≡ Err fault
unfolding channel_fields
rows_lack head channel rest first blocks fault read_blocks read_rows = rw (read_blocks, read_rows) refl

-- a row that names a page: its slot, then its serial
pub row_in_parts : (sizes : Sizes) (blocks : List BlockBase) (before : List Row) (row : ℕ) (rest : Rest)
    → page_row sizes blocks before (row, faults.row) rest
    ≡ (slot_field sizes blocks before row rest >>= (λ slot. number_field w64 is_any slot.1 >>= (λ serial. Ok (Page slot.0 serial.0, serial.1))))
unfolding page_row slot_field
row_in_parts sizes blocks before row rest =
    ahead (number_or (row, faults.row) w16 (is_below sizes.superblocks) rest) _ _ _ (λ sb.
    ahead (number_or (row, faults.row) w32 (λ index. may_name blocks before (record { sb = sb.0; index = index })) sb.1) _ _ _ (λ index. refl))
