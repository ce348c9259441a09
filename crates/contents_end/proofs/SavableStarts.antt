-- Contents that are made of a start have a spelling: the proof of the first law of specs/ContentsEnd.antt.
use Rattle.std.proofs.Common.{◌≡◌, refl, ap, sym, subst, ◌∙◌, ℕ, ◌+◌, ◌-◌, ◌*◌, ◌^◌, ◌≤◌, ◌<◌, ◌&&◌, ◌||◌, ◌==◌, not, Bool, true, false, List, [], length, map, get_or, ℤ, arith}
use Rattle.std.specs.Prelude.{if◌then◌else◌}
use Rattle.std.specs.List.{enumerate_from, list_all}
use Rattle.std.proofs.Math.Nat.{mul-le-mul}
use Rattle.std.proofs.lemmas.List.{length-map}
use Rattle.std.proofs.lemmas.List.FromFn.{length-enumerate_from}
use Rattle.ssd_geo.specs.BaseMatrix.{BaseMatrix}
use Rattle.ssd_geo.specs.Coding.{matrix_of}
use Rattle.ssd_geo.specs.Codewords.{IsCodeword}
use Rattle.ssd_geo.specs.Limits.{IsWithinLimits, Sizes, is_level, is_within, page_cells_of, word_bytes_of}
use Rattle.ssd_geo.specs.PageWord.{code_in}
use Rattle.ssd_geo.specs.Shape.{sizes_of}
use Rattle.ssd_geo.specs.Superblock.{due_pages}
use Rattle.ssd_geo.specs.declared.base.BlockBase.{BlockBase}
use Rattle.ssd_geo.specs.declared.base.ChannelBase.{ChannelBase}
use Rattle.ssd_geo.specs.declared.row.Row.{Row}
use Rattle.ssd_histories.specs.Blocks.{blank_block, block_at, has_due_used, is_due_block}
use Rattle.ssd_histories.specs.PageMap.{NameWithin, row_at}
use Rattle.ssd_histories.specs.PastBlocks.{slots_in}
use Rattle.ssd_histories.specs.Standing.{IsDueBlock, IsStart, names_used}
use Rattle.ssd_histories.specs.Start.{Start, cells_at_start}
use Rattle.ssd_histories.specs.States.{is_bad}
use Rattle.ssd_formats.specs.ImageContents.{IsSaved, are_pages, are_saved_blocks, are_saved_rows, blocks_of_saved, is_factory_bad, is_page, is_page_word, saved_block, saved_channel, slots_of_sizes}
use Rattle.ssd_formats.specs.ImageHead.{Head, IsHead, matrix_of_head}
use Rattle.ssd_formats.proofs.HeadLaws.{head_is_within_limits}
use Rattle.contents_start.proofs.SavedBlocks.{IsCount}
use Rattle.contents_start.proofs.SavedRows.{is_used_in}
use Rattle.contents_end.specs.ContentsEnd.{IsSavable, StartsAreSaved}
use Rattle.contents_end.proofs.Codewords.{word_passes}
use Rattle.contents_end.proofs.SavableBlocks.{MayStand, blocks_back, blocks_may_stand}
use Rattle.contents_end.proofs.SavableRows.{AreNames, rows_are_saved}
use Rattle.contents_end.proofs.Tests.{all_at, both_true, equal_if}
use Rattle.shared_lemmas.proofs.Positions.{all_from}
use Rattle.ssd_geo.proofs.Sizes.{is_within_from}
use Rattle.ssd_histories.proofs.UsedSlots.{due_used}

-- a bad superblock is bad whether it is listed or not
listed_or : (bad listed : Bool) → (listed ≡ true → bad ≡ true) → (bad || not listed) ≡ true
listed_or true listed known = refl
listed_or false true known = absurd (let e : false ≡ true = known refl in (cc))
listed_or false false known = refl

-- the test of a number of programmed pages
count_passes : (bad : Bool) (due pages n : ℕ) → due ≤ n → n ≤ pages → (not bad ≡ true → n ≡ due)
    → (if bad then is_within due pages n else (n == due)) ≡ true
count_passes true due pages n least most exact = is_within_from due pages n least most
count_passes false due pages n least most exact = equal_if n due (exact refl)

used_is : (base : ChannelBase) (of : Row) → is_used_in base.blocks of ≡ names_used base of
used_is base Row.Empty = refl
used_is base Row.Lost = refl
used_is base (Row.Page slot serial) = refl

abbrev matrix_by : Sizes → List ℤ → BaseMatrix
matrix_by sizes entries = record { z = sizes.z; mb = sizes.mb; nb = sizes.nb; entries = entries }

-- a start that may be saved
module _ (head : Head) (channel : ℕ) (start : Start) (h : IsHead head) (is : IsStart start) (can : IsSavable head channel start) where
  same : sizes_of start.base.shape ≡ head.sizes
  same = can.of_head.shape

  slots_are : slots_in start.base ≡ slots_of_sizes head.sizes
  slots_are = ap (λ (sizes : Sizes). slots_of_sizes sizes) same

  slots_few : slots_in start.base < 2 ^ 32
  slots_few =
      let limits : IsWithinLimits head.sizes = head_is_within_limits head h in
      let most : head.sizes.pages * (head.sizes.dies - 1) ≤ 256 * 7 =
      mul-le-mul {n₁ = head.sizes.pages} {m₁ = head.sizes.dies - 1} {n₂ = 256} {m₂ = 7} limits.pages_high (omega (arith, limits.dies_high)) in
      omega (arith, most, slots_are)

  dies_are : start.base.shape.dies ≡ head.sizes.dies
  dies_are = ap (λ (sizes : Sizes). sizes.dies) same

  due_at : (sb : ℕ) → sb < length start.base.blocks → is_due_block (slots_in start.base) (block_at start.base.blocks sb) ≡ true
  due_at sb below = all_at (is_due_block (slots_in start.base)) start.base.blocks blank_block is.blocks_sound.due sb below

  -- the pages of a block of a die
  count_of : (die sb : ℕ) → IsDueBlock start die sb
      → IsCount (sizes_of start.base.shape) (block_at start.base.blocks sb).state sb (block_at start.base.blocks sb).used die
      (length (cells_at_start start die sb).pages)
  count_of die sb due =
      let block : BlockBase = block_at start.base.blocks sb in
      record {
        programmed =
            count_passes (is_bad block.state) (due_pages start.base.shape.dies sb block.used die) start.base.shape.pages
            (length (cells_at_start start die sb).pages) due.at_least due.at_most due.exact;
        few = due.at_most;
      }

  pages_of : (die sb : ℕ) → die < start.base.shape.dies → sb < start.base.shape.superblocks → IsDueBlock start die sb
      → are_pages (page_cells_of (sizes_of start.base.shape)) (cells_at_start start die sb).pages ≡ true
  pages_of die sb in_dies in_blocks due =
      let cells : ℕ = page_cells_of (sizes_of start.base.shape) in
      let pages : List (List ℤ) = (cells_at_start start die sb).pages in
      all_from (is_page cells) pages []
      (λ page below.
      both_true (length (get_or pages page []) == cells) (list_all is_level (get_or pages page []))
      (equal_if (length (get_or pages page [])) cells (due.whole page [] below))
      (can.levels die sb in_dies in_blocks page [] below))

  may_stand : (sb : ℕ) → sb < length start.base.blocks → MayStand head channel start.cells sb (block_at start.base.blocks sb)
  may_stand sb below =
      let block : BlockBase = block_at start.base.blocks sb in
      let in_blocks : sb < start.base.shape.superblocks = omega (arith, below, is.blocks_count) in
      let due : is_due_block (slots_in start.base) block ≡ true = due_at sb below in
      let fits : block.used ≤ slots_in start.base = due_used (slots_in start.base) block.state block.used due in
      record {
        listed = listed_or (is_bad block.state) (is_factory_bad head channel sb) (can.listed_bad sb in_blocks);
        erases = is.few_erases sb blank_block below;
        few = omega (arith, fits, slots_few);
        used = ap (λ (slots : ℕ). has_due_used slots block.state block.used) (sym slots_are) ∙ due;
        counts = λ die low.
            let in_dies : die < start.base.shape.dies = omega (arith, low, is.dies_count) in
            subst (λ (sizes : Sizes). IsCount sizes block.state sb block.used die (length (cells_at_start start die sb).pages)) same
            (count_of die sb (is.blocks_due die sb in_dies in_blocks));
        pages = λ die low.
            let in_dies : die < start.base.shape.dies = omega (arith, low, is.dies_count) in
            ap (λ (sizes : Sizes). are_pages (page_cells_of sizes) (cells_at_start start die sb).pages) (sym same)
            ∙ pages_of die sb in_dies in_blocks (is.blocks_due die sb in_dies in_blocks);
      }

  -- its running sum
  matrix_is : matrix_of start.base ≡ matrix_of_head head
  matrix_is =
      ap (λ (sizes : Sizes). matrix_by sizes start.base.entries) same ∙ ap (matrix_by head.sizes) can.of_head.entries

  codeword : (f : ℕ) → f < head.sizes.words → IsCodeword (matrix_of_head head) (code_in head.sizes start.base.sum f)
  codeword f below =
      let words : start.base.shape.words ≡ head.sizes.words = ap (λ (sizes : Sizes). sizes.words) same in
      subst (λ (m : BaseMatrix). IsCodeword m (code_in head.sizes start.base.sum f)) matrix_is
      (subst (λ (sizes : Sizes). IsCodeword (matrix_of start.base) (code_in sizes start.base.sum f)) same
      (is.sum_codewords f (omega (arith, below, words))))

  word : (length start.base.sum == word_bytes_of head.sizes && is_page_word head start.base.sum) ≡ true
  word =
      both_true (length start.base.sum == word_bytes_of head.sizes) (is_page_word head start.base.sum)
      (equal_if (length start.base.sum) (word_bytes_of head.sizes) (is.sum_bytes ∙ ap (λ (sizes : Sizes). word_bytes_of sizes) same))
      (word_passes head start.base.sum codeword)

  blocks_are_saved : are_saved_blocks head channel [] (saved_channel start.base start.cells).blocks ≡ true
  blocks_are_saved =
      ap (λ (sizes : Sizes). are_saved_blocks head channel []
      (map (saved_block sizes start.base.sum start.cells) (enumerate_from 0 start.base.blocks))) same
      ∙ blocks_may_stand head channel start.base.sum start.cells start.base.blocks 0 [] refl (is.dies_count ∙ dies_are) word
      (λ k below.
      let here : k ≡ 0 + k = omega arith in
      subst (λ (sb : ℕ). MayStand head channel start.cells sb (block_at start.base.blocks k)) here (may_stand k below))
      (omega (arith, is.blocks_sound.one_frontier)) (omega (arith, is.blocks_sound.one_victim))

  -- its rows
  are_names : AreNames head.sizes start.base.blocks (slots_in start.base) start.base.rows
  are_names = record {
    within =
        subst (λ (sizes : Sizes). NameWithin sizes.superblocks (slots_in start.base) start.base.rows) same is.rows_within;
    apart = is.rows_apart;
    used = λ row below. used_is start.base (row_at start.base.rows row) ∙ is.rows_used row Row.Empty below;
    serials = can.serials;
    slots_few = slots_few;
  }

  rows_saved :
      are_saved_rows head.sizes (blocks_of_saved (saved_channel start.base start.cells).blocks) [] start.base.rows ≡ true
  rows_saved =
      ap (λ (blocks : List BlockBase). are_saved_rows head.sizes blocks [] start.base.rows)
      (blocks_back (sizes_of start.base.shape) start.base.sum start.cells start.base.blocks 0)
      ∙ rows_are_saved head.sizes start.base.blocks (slots_in start.base) start.base.rows are_names

  block_count : length (saved_channel start.base start.cells).blocks ≡ head.sizes.superblocks
  block_count =
      length-map (enumerate_from 0 start.base.blocks) (saved_block (sizes_of start.base.shape) start.base.sum start.cells)
      ∙ length-enumerate_from 0 start.base.blocks ∙ is.blocks_count
      ∙ ap (λ (sizes : Sizes). sizes.superblocks) same

  row_count : length start.base.rows ≡ head.sizes.rows
  row_count = is.rows_count ∙ ap (λ (sizes : Sizes). sizes.rows) same

  start_is_saved : IsSaved head channel (saved_channel start.base start.cells)
  start_is_saved = record {
    block_count = block_count;
    blocks = blocks_are_saved;
    row_count = row_count;
    rows = rows_saved;
  }

pub starts_are_saved : StartsAreSaved
starts_are_saved head channel start h is can = start_is_saved head channel start h is can
