-- The contents of a channel that were written are read again, whatever follows.
use Rattle.std.proofs.Common.{◌≡◌, refl, ℕ, suc, ◌+◌, ◌^◌, ◌<◌, ◌≤◌, Bool, true, false, List, [], ◌∷◌, ◌++◌, length, map, arith, ap, ◌∙◌, sym, ◌&&◌}
use Rattle.std.specs.Prelude.{Ok, Some, IsTrue, ℤ, flat_map, ◌==◌, if◌then◌else◌}
use Rattle.std.specs.List.{list_all}
use Rattle.std.specs.Int.{w8, w16, w32, w64, to_le_bytes}
use Rattle.std.proofs.lemmas.Grind.{common_steps}
use Rattle.std.proofs.lemmas.List.{append_assoc, append-nil, length-append}
use Rattle.ssd_histories.specs.Blocks.{has_due_used}
use Rattle.ssd_formats.specs.Fields.{Rest, Reading, is_below, is_any, level_fields, bytes_of_signed, passing, field_or}
use Rattle.ssd_geo.specs.Limits.{Sizes, is_within, is_level, page_cells_of, word_bytes_of}
use Rattle.ssd_formats.specs.ImageContents.{SavedBlock, ChannelImage, programmed_fields, page_fields, die_fields, is_programmed_count, are_programmed_counts, is_page, are_pages, pages_bytes, state_field, state_of_bytes, number_of_state, may_be, is_stripe_open, is_sum, sum_field, is_page_word, slots_of_sizes, block_fields, block_bytes, is_saved_block, blocks_fields, are_saved_blocks, row_field, page_row, row_bytes, is_saved_row, row_fields, are_saved_rows, may_name, blocks_of_saved, channel_fields, channel_bytes, IsSaved, AreSaved, read_channel, read_channels, blank_channel, read_image, image_bytes}
use Rattle.ssd_formats.specs.ImageHead.{Head, IsHead, head_bytes}
use Rattle.ssd_formats.specs.InputFaults.{range}
use Rattle.ssd_formats.specs.InputFaults as faults
use Rattle.ssd_geo.specs.declared.base.BlockBase.{BlockBase}
use Rattle.ssd_geo.specs.declared.row.Row.{Row}
use Rattle.ssd_geo.specs.declared.row.Row.TheVariants.{Empty, Lost, Page}
use Rattle.ssd_geo.specs.declared.superblock.SbState.{SbState}
use Rattle.ssd_geo.specs.declared.superblock.SbState.TheVariants.{Free, Frontier, Sealed, Bad, Victim}
use Rattle.ssd_formats.proofs.FieldLaws.{goes_on, passes, field_again, number_again_8, number_again_16, number_again_32, number_again_64}
use Rattle.ssd_formats.proofs.HeadLaws.{read_at, same_reading, below_is, within_is, levels_again, head_is_read}
use Rattle.std.proofs.lemmas.Bool.{and_parts, eqb-true}

no_length : (n : ℕ) → (suc n == 0) ≡ true → ⊥
no_length n e = grind (arith, common_steps)

state_known : (head : Head) (channel : ℕ) (before : List SavedBlock) (state : SbState) → may_be head channel before state ≡ true →
    state_of_bytes head channel before (to_le_bytes w8 (number_of_state state)) ≡ Some state
state_known head channel before Free e = passes (may_be head channel before) Free Free refl e
state_known head channel before Frontier e = passes (may_be head channel before) Frontier Frontier refl e
state_known head channel before Sealed e = passes (may_be head channel before) Sealed Sealed refl e
state_known head channel before Bad e = passes (may_be head channel before) Bad Bad refl e
state_known head channel before Victim e = passes (may_be head channel before) Victim Victim refl e

state_again : (head : Head) (channel : ℕ) (before : List SavedBlock) (state : SbState) (place : ℕ) (more : List ℕ) → may_be head channel before state ≡ true →
    state_field head channel before (record { place = place; bytes = to_le_bytes w8 (number_of_state state) ++ more }) ≡ Ok (state, record { place = place + 1; bytes = more })
state_again head channel before state place more e =
    field_again (place, faults.state) (state_of_bytes head channel before) state place (to_le_bytes w8 (number_of_state state)) more (state_known head channel before state e)

-- the bytes of the numbers of programmed pages
abbrev counts_bytes : List (List (List ℤ)) → List ℕ
counts_bytes pages = flat_map (λ of. to_le_bytes w16 (length of)) pages

programmed_again : (sizes : Sizes) (state : SbState) (sb used : ℕ) (pages : List (List (List ℤ))) (before : List ℕ) (place : ℕ) (more : List ℕ) →
    sizes.pages ≤ 256 → are_programmed_counts sizes state sb used before (map length pages) ≡ true →
    programmed_fields sizes state sb used (length pages) before (record { place = place; bytes = counts_bytes pages ++ more }) ≡ Ok (before ++ map length pages, record { place = place + length (counts_bytes pages); bytes = more })
unfolding programmed_fields
programmed_again sizes state sb used [] before place more small e =
    same_reading before (before ++ []) place (place + 0) more (sym (append-nil before)) (omega arith)
programmed_again sizes state sb used (of ∷ pages) before place more small e =
    let n : ℕ = length of in
    let tail : List ℕ = counts_bytes pages in
    let parts = and_parts (is_programmed_count sizes state sb used (length before) n && is_within 0 sizes.pages n) (are_programmed_counts sizes state sb used (before ++ n ∷ []) (map length pages)) e in
    let here = and_parts (is_programmed_count sizes state sb used (length before) n) (is_within 0 sizes.pages n) parts.0 in
    let fits : n < 2 ^ 16 = omega (arith, within_is 0 sizes.pages n here.1, small) in
    goes_on _ _ _ (number_again_16 (place, faults.count) (is_programmed_count sizes state sb used (length before)) n place (tail ++ more) fits here.0)
    ∙ (programmed_again sizes state sb used pages (before ++ n ∷ []) (place + 2) more small parts.1
    ∙ same_reading ((before ++ n ∷ []) ++ map length pages) (before ++ n ∷ map length pages) (place + 2 + length tail) (place + length (counts_bytes (of ∷ pages))) more
    (append_assoc before (n ∷ []) (map length pages)) (omega arith))

page_again : (cells : ℕ) (page : List ℤ) (place : ℕ) (more : List ℕ) → is_page cells page ≡ true →
    level_fields cells [] (record { place = place; bytes = flat_map bytes_of_signed page ++ more }) ≡ Ok (page, record { place = place + length (flat_map bytes_of_signed page); bytes = more })
page_again cells page place more e =
    let both = and_parts (length page == cells) (list_all is_level page) e in
    ap (λ n. level_fields n [] (record { place = place; bytes = flat_map bytes_of_signed page ++ more })) (sym (eqb-true (length page) cells both.0))
    ∙ levels_again page [] place more both.1

pages_again : (cells : ℕ) (pages before : List (List ℤ)) (place : ℕ) (more : List ℕ) → are_pages cells pages ≡ true →
    page_fields cells (length pages) before (record { place = place; bytes = pages_bytes pages ++ more }) ≡ Ok (before ++ pages, record { place = place + length (pages_bytes pages); bytes = more })
unfolding page_fields
pages_again cells [] before place more e =
    same_reading before (before ++ []) place (place + 0) more (sym (append-nil before)) (omega arith)
pages_again cells (page ∷ pages) before place more e =
    let both = and_parts (is_page cells page) (are_pages cells pages) e in
    let first : List ℕ = flat_map bytes_of_signed page in
    let tail : List ℕ = pages_bytes pages in
    ap (λ bytes. page_fields cells (suc (length pages)) before (record { place = place; bytes = bytes })) (append_assoc first tail more)
    ∙ (goes_on _ _ _ (page_again cells page place (tail ++ more) both.0)
    ∙ (pages_again cells pages (before ++ page ∷ []) (place + length first) more both.1
    ∙ same_reading ((before ++ page ∷ []) ++ pages) (before ++ page ∷ pages) (place + length first + length tail) (place + length (first ++ tail)) more
    (append_assoc before (page ∷ []) pages) (omega (arith, length-append first tail))))

dies_again : (cells : ℕ) (dies before : List (List (List ℤ))) (place : ℕ) (more : List ℕ) → list_all (are_pages cells) dies ≡ true →
    die_fields cells (map length dies) before (record { place = place; bytes = flat_map pages_bytes dies ++ more }) ≡ Ok (before ++ dies, record { place = place + length (flat_map pages_bytes dies); bytes = more })
unfolding die_fields
dies_again cells [] before place more e =
    same_reading before (before ++ []) place (place + 0) more (sym (append-nil before)) (omega arith)
dies_again cells (pages ∷ dies) before place more e =
    let both = and_parts (are_pages cells pages) (list_all (are_pages cells) dies) e in
    let first : List ℕ = pages_bytes pages in
    let tail : List ℕ = flat_map pages_bytes dies in
    ap (λ bytes. die_fields cells (length pages ∷ map length dies) before (record { place = place; bytes = bytes })) (append_assoc first tail more)
    ∙ (goes_on _ _ _ (pages_again cells pages [] place (tail ++ more) both.0)
    ∙ (dies_again cells dies (before ++ pages ∷ []) (place + length first) more both.1
    ∙ same_reading ((before ++ pages ∷ []) ++ dies) (before ++ pages ∷ dies) (place + length first + length tail) (place + length (first ++ tail)) more
    (append_assoc before (pages ∷ []) dies) (omega (arith, length-append first tail))))

-- no bytes
none_again : (word : List ℕ) (place : ℕ) (more : List ℕ) → (length word == 0) ≡ true →
    read_at [] place (word ++ more) ≡ read_at word (place + length word) more
none_again [] place more e = same_reading [] [] place (place + 0) more refl (omega arith)
none_again (byte ∷ word) place more e = absurd (no_length (length word) e)

-- the sum of an open stripe, or no bytes
sum_again : (head : Head) (block : BlockBase) (word : List ℕ) (place : ℕ) (more : List ℕ) (b : Bool) → is_stripe_open head.sizes block ≡ b → is_sum head block word ≡ true →
    sum_field head block (record { place = place; bytes = word ++ more }) ≡ Ok (word, record { place = place + length word; bytes = more })
sum_again head block word place more true o e =
    let start : Rest = record { place = place; bytes = word ++ more } in
    let is_checked : List ℕ → Bool = is_page_word head in
    let tested : Bool = length word == word_bytes_of head.sizes && is_checked word in
    let told : tested ≡ true = ap (λ c. if c then tested else (length word == 0)) (sym o) ∙ e in
    let both = and_parts (length word == word_bytes_of head.sizes) (is_checked word) told in
    let read : Reading (List ℕ) = field_or (place, faults.sum) (word_bytes_of head.sizes) (passing is_checked) start in
    ap (λ c. if c then read else Ok ([], start)) o
    ∙ (ap (λ n. field_or (place, faults.sum) n (passing is_checked) start) (sym (eqb-true (length word) (word_bytes_of head.sizes) both.0))
    ∙ field_again (place, faults.sum) (passing is_checked) word place word more (passes is_checked word word refl both.1))
sum_again head block word place more false o e =
    let start : Rest = record { place = place; bytes = word ++ more } in
    let is_checked : List ℕ → Bool = is_page_word head in
    let tested : Bool = length word == word_bytes_of head.sizes && is_checked word in
    let told : (length word == 0) ≡ true = ap (λ c. if c then tested else (length word == 0)) (sym o) ∙ e in
    let read : Reading (List ℕ) = field_or (place, faults.sum) (word_bytes_of head.sizes) (passing is_checked) start in
    ap (λ c. if c then read else Ok ([], start)) o ∙ none_again word place more told

block_again : (head : Head) (channel : ℕ) (before : List SavedBlock) (saved : SavedBlock) (place : ℕ) (more : List ℕ) → head.sizes.pages ≤ 256 →
    is_saved_block head channel before saved ≡ true →
    block_fields head channel before (record { place = place; bytes = block_bytes saved ++ more }) ≡ Ok (saved, record { place = place + length (block_bytes saved); bytes = more })
unfolding block_fields
block_again head channel before saved place more small e =
    let sizes : Sizes = head.sizes in
    let block : BlockBase = saved.block in
    let t1 : Bool = may_be head channel before block.state in
    let t2 : Bool = is_within 0 (2 ^ 31) block.erases in
    let t3 : Bool = is_below (2 ^ 32) block.used in
    let t4 : Bool = has_due_used (slots_of_sizes sizes) block.state block.used in
    let t5 : Bool = length saved.pages == sizes.dies in
    let t6 : Bool = are_programmed_counts sizes block.state (length before) block.used [] (map length saved.pages) in
    let t7 : Bool = list_all (are_pages (page_cells_of sizes)) saved.pages in
    let t8 : Bool = is_sum head block saved.sum in
    let e8 = and_parts (t1 && t2 && t3 && t4 && t5 && t6 && t7) t8 e in
    let e7 = and_parts (t1 && t2 && t3 && t4 && t5 && t6) t7 e8.0 in
    let e6 = and_parts (t1 && t2 && t3 && t4 && t5) t6 e7.0 in
    let e5 = and_parts (t1 && t2 && t3 && t4) t5 e6.0 in
    let e4 = and_parts (t1 && t2 && t3) t4 e5.0 in
    let e3 = and_parts (t1 && t2) t3 e4.0 in
    let e2 = and_parts t1 t2 e3.0 in
    let cn : List ℕ = counts_bytes saved.pages in
    let pg : List ℕ = flat_map pages_bytes saved.pages in
    let sm : List ℕ = saved.sum in
    let b5 : List ℕ = sm ++ more in
    let b4 : List ℕ = pg ++ b5 in
    let b3 : List ℕ = cn ++ b4 in
    let b2 : List ℕ = to_le_bytes w32 block.used ++ b3 in
    let b1 : List ℕ = to_le_bytes w32 block.erases ++ b2 in
    let front : List ℕ → List ℕ = λ bytes. to_le_bytes w8 (number_of_state block.state) ++ (to_le_bytes w32 block.erases ++ (to_le_bytes w32 block.used ++ bytes)) in
    let grouped : (cn ++ pg ++ sm) ++ more ≡ b3 = append_assoc (cn ++ pg) sm more ∙ append_assoc cn pg (sm ++ more) in
    let few_erases : block.erases < 2 ^ 32 = omega (arith, within_is 0 (2 ^ 31) block.erases e2.1) in
    let few_used : block.used < 2 ^ 32 = below_is (2 ^ 32) block.used e3.1 in
    let dies : length saved.pages ≡ sizes.dies = eqb-true (length saved.pages) sizes.dies e5.1 in
    let p9 : ℕ = place + 1 + 4 + 4 in
    let from_counts : Rest = record { place = p9; bytes = b3 } in
    let counts = ap (λ n. programmed_fields sizes block.state (length before) block.used n [] from_counts) (sym dies)
    ∙ programmed_again sizes block.state (length before) block.used saved.pages [] p9 b4 small e6.1 in
    ap (λ bytes. block_fields head channel before (record { place = place; bytes = front bytes })) grouped
    ∙ (goes_on _ _ _ (state_again head channel before block.state place b1 e2.0)
    ∙ (goes_on _ _ _ (number_again_32 (place + 1, range) (is_within 0 (2 ^ 31)) block.erases (place + 1) b2 few_erases e2.1)
    ∙ (goes_on _ _ _ (number_again_32 (place + 1 + 4, faults.count) (has_due_used (slots_of_sizes sizes) block.state) block.used (place + 1 + 4) b3 few_used e4.1)
    ∙ (goes_on _ _ _ counts
    ∙ (goes_on _ _ _ (dies_again (page_cells_of sizes) saved.pages [] (p9 + length cn) b5 e7.1)
    ∙ (goes_on _ _ _ (sum_again head block sm (p9 + length cn + length pg) more (is_stripe_open sizes block) refl e8.1)
    ∙ same_reading saved saved (p9 + length cn + length pg + length sm) (place + length (block_bytes saved)) more refl
    (omega (arith, length-append (cn ++ pg) sm, length-append cn pg))))))))

blocks_again : (head : Head) (channel : ℕ) (blocks before : List SavedBlock) (place : ℕ) (more : List ℕ) → head.sizes.pages ≤ 256 →
    are_saved_blocks head channel before blocks ≡ true →
    blocks_fields head channel (length blocks) before (record { place = place; bytes = flat_map block_bytes blocks ++ more }) ≡ Ok (before ++ blocks, record { place = place + length (flat_map block_bytes blocks); bytes = more })
unfolding blocks_fields
blocks_again head channel [] before place more small e =
    same_reading before (before ++ []) place (place + 0) more (sym (append-nil before)) (omega arith)
blocks_again head channel (saved ∷ blocks) before place more small e =
    let both = and_parts (is_saved_block head channel before saved) (are_saved_blocks head channel (before ++ saved ∷ []) blocks) e in
    let first : List ℕ = block_bytes saved in
    let tail : List ℕ = flat_map block_bytes blocks in
    ap (λ bytes. blocks_fields head channel (suc (length blocks)) before (record { place = place; bytes = bytes })) (append_assoc first tail more)
    ∙ (goes_on _ _ _ (block_again head channel before saved place (tail ++ more) small both.0)
    ∙ (blocks_again head channel blocks (before ++ saved ∷ []) (place + length first) more small both.1
    ∙ same_reading ((before ++ saved ∷ []) ++ blocks) (before ++ saved ∷ blocks) (place + length first + length tail) (place + length (first ++ tail)) more
    (append_assoc before (saved ∷ []) blocks) (omega (arith, length-append first tail))))

row_again : (sizes : Sizes) (blocks : List BlockBase) (before : List Row) (of : Row) (place : ℕ) (more : List ℕ) → sizes.superblocks ≤ 256 →
    is_saved_row sizes blocks before of ≡ true →
    row_field sizes blocks before (record { place = place; bytes = row_bytes of ++ more }) ≡ Ok (of, record { place = place + length (row_bytes of); bytes = more })
unfolding row_field page_row
row_again sizes blocks before Empty place more small e =
    goes_on _ _ _ (number_again_8 (place, faults.row) (is_within 0 2) 0 place more (omega arith) refl)
row_again sizes blocks before Lost place more small e =
    goes_on _ _ _ (number_again_8 (place, faults.row) (is_within 0 2) 2 place more (omega arith) refl)
row_again sizes blocks before (Page slot serial) place more small e =
    let t1 : Bool = is_below sizes.superblocks slot.sb in
    let t2 : Bool = is_below (2 ^ 32) slot.index in
    let t3 : Bool = is_below (2 ^ 64) serial in
    let t4 : Bool = may_name blocks before slot in
    let e4 = and_parts (t1 && t2 && t3) t4 e in
    let e3 = and_parts (t1 && t2) t3 e4.0 in
    let e2 = and_parts t1 t2 e3.0 in
    let b3 : List ℕ = to_le_bytes w64 serial ++ more in
    let b2 : List ℕ = to_le_bytes w32 slot.index ++ b3 in
    let b1 : List ℕ = to_le_bytes w16 slot.sb ++ b2 in
    let fs : slot.sb < 2 ^ 16 = omega (arith, below_is sizes.superblocks slot.sb e2.0, small) in
    goes_on _ _ _ (number_again_8 (place, faults.row) (is_within 0 2) 1 place b1 (omega arith) refl)
    ∙ (goes_on _ _ _ (number_again_16 (place, faults.row) (is_below sizes.superblocks) slot.sb (place + 1) b2 fs e2.0)
    ∙ (goes_on _ _ _ (number_again_32 (place, faults.row) (λ index. may_name blocks before (record { sb = slot.sb; index = index })) slot.index (place + 1 + 2) b3 (below_is (2 ^ 32) slot.index e2.1) e4.1)
    ∙ (goes_on _ _ _ (number_again_64 (place + 1 + 2 + 4, range) is_any serial (place + 1 + 2 + 4) more (below_is (2 ^ 64) serial e3.1) refl)
    ∙ same_reading (Page slot serial) (Page slot serial) (place + 1 + 2 + 4 + 8) (place + 15) more refl (omega arith))))

rows_again : (sizes : Sizes) (blocks : List BlockBase) (rows before : List Row) (place : ℕ) (more : List ℕ) → sizes.superblocks ≤ 256 →
    are_saved_rows sizes blocks before rows ≡ true →
    row_fields sizes blocks (length rows) before (record { place = place; bytes = flat_map row_bytes rows ++ more }) ≡ Ok (before ++ rows, record { place = place + length (flat_map row_bytes rows); bytes = more })
unfolding row_fields
rows_again sizes blocks [] before place more small e =
    same_reading before (before ++ []) place (place + 0) more (sym (append-nil before)) (omega arith)
rows_again sizes blocks (of ∷ rows) before place more small e =
    let both = and_parts (is_saved_row sizes blocks before of) (are_saved_rows sizes blocks (before ++ of ∷ []) rows) e in
    let first : List ℕ = row_bytes of in
    let tail : List ℕ = flat_map row_bytes rows in
    ap (λ bytes. row_fields sizes blocks (suc (length rows)) before (record { place = place; bytes = bytes })) (append_assoc first tail more)
    ∙ (goes_on _ _ _ (row_again sizes blocks before of place (tail ++ more) small both.0)
    ∙ (rows_again sizes blocks rows (before ++ of ∷ []) (place + length first) more small both.1
    ∙ same_reading ((before ++ of ∷ []) ++ rows) (before ++ of ∷ rows) (place + length first + length tail) (place + length (first ++ tail)) more
    (append_assoc before (of ∷ []) rows) (omega (arith, length-append first tail))))

pub contents_are_read : (head : Head) (channel : ℕ) (saved : ChannelImage) (place : ℕ) (more : List ℕ) → IsHead head → IsSaved head channel saved →
    channel_fields head channel (record { place = place; bytes = channel_bytes saved ++ more }) ≡ Ok (saved, record { place = place + length (channel_bytes saved); bytes = more })
unfolding channel_fields channel_bytes
contents_are_read head channel saved place more h s =
    let sizes : Sizes = head.sizes in
    let first : List ℕ = flat_map block_bytes saved.blocks in
    let tail : List ℕ = flat_map row_bytes saved.rows in
    let pages : sizes.pages ≤ 256 = within_is 2 256 sizes.pages h.pages in
    let superblocks : sizes.superblocks ≤ 256 = within_is 4 256 sizes.superblocks h.superblocks in
    let start : Rest = record { place = place; bytes = first ++ (tail ++ more) } in
    let middle : Rest = record { place = place + length first; bytes = tail ++ more } in
    let blocks = ap (λ n. blocks_fields head channel n [] start) (sym s.block_count) ∙ blocks_again head channel saved.blocks [] place (tail ++ more) pages s.blocks in
    let rows = ap (λ n. row_fields sizes (blocks_of_saved saved.blocks) n [] middle) (sym s.row_count) ∙ rows_again sizes (blocks_of_saved saved.blocks) saved.rows [] (place + length first) more superblocks s.rows in
    ap (λ bytes. channel_fields head channel (record { place = place; bytes = bytes })) (append_assoc first tail more)
    ∙ (goes_on _ _ _ blocks
    ∙ (goes_on _ _ _ rows
    ∙ same_reading saved saved (place + length first + length tail) (place + length (first ++ tail)) more refl (omega (arith, length-append first tail))))

channels_again : (head : Head) (channels before : List ChannelImage) (place : ℕ) (more : List ℕ) → IsHead head → head.full ≡ true → AreSaved head before channels →
    read_channels head (length channels) before (record { place = place; bytes = flat_map channel_bytes channels ++ more }) ≡ Ok (before ++ channels, record { place = place + length (flat_map channel_bytes channels); bytes = more })
unfolding read_channels
channels_again head [] before place more h full s =
    same_reading before (before ++ []) place (place + 0) more (sym (append-nil before)) (omega arith)
channels_again head (saved ∷ channels) before place more h full s =
    let first : List ℕ = channel_bytes saved in
    let tail : List ℕ = flat_map channel_bytes channels in
    let start : Rest = record { place = place; bytes = first ++ (tail ++ more) } in
    let one : read_channel head (length before) start ≡ Ok (saved, record { place = place + length first; bytes = tail ++ more }) =
    ap (λ b. if b then channel_fields head (length before) start else Ok (blank_channel head (length before), start)) full
    ∙ contents_are_read head (length before) saved place (tail ++ more) h s.0 in
    ap (λ bytes. read_channels head (suc (length channels)) before (record { place = place; bytes = bytes })) (append_assoc first tail more)
    ∙ (goes_on _ _ _ one
    ∙ (channels_again head channels (before ++ saved ∷ []) (place + length first) more h full s.1
    ∙ same_reading ((before ++ saved ∷ []) ++ channels) (before ++ saved ∷ channels) (place + length first + length tail) (place + length (first ++ tail)) more
    (append_assoc before (saved ∷ []) channels) (omega (arith, length-append first tail))))

pub image_is_read : (head : Head) (channels : List ChannelImage) (more : List ℕ) → IsHead head → IsTrue head.full → length channels ≡ head.sizes.channels → AreSaved head [] channels →
    read_image (image_bytes head channels ++ more) ≡ Ok ((head, channels), record { place = length (image_bytes head channels); bytes = more })
unfolding read_image
image_is_read head channels more h full count s =
    let first : List ℕ = head_bytes head in
    let tail : List ℕ = flat_map channel_bytes channels in
    let middle : Rest = record { place = length first; bytes = tail ++ more } in
    let all = ap (λ n. read_channels head n [] middle) (sym count) ∙ channels_again head channels [] (length first) more h full s in
    ap read_image (append_assoc first tail more)
    ∙ (goes_on _ _ _ (head_is_read head (tail ++ more) h)
    ∙ (goes_on _ _ _ all
    ∙ same_reading (head, channels) (head, channels) (length first + length tail) (length (first ++ tail)) more refl (omega (arith, length-append first tail))))
