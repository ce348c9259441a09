-- A channel may begin with contents that have a spelling: the proof of the law of specs/ContentsStart.antt on starts.
use Rattle.std.proofs.Common.{◌≡◌, refl, ap, sym, subst, ◌∙◌, ℕ, ◌-◌, ◌*◌, ◌^◌, ◌≤◌, ◌<◌, not, Bool, true, false, List, [], length, map, take, get_or, count_by, arith}
use Rattle.std.specs.Prelude.{All, IsTrue}
use Rattle.std.specs.List.{list_all, list_any}
use Rattle.std.proofs.Math.Nat.{mul-le-mul}
use Rattle.std.proofs.lemmas.List.{get_or-map, length-map, length-replicate}
use Rattle.std.proofs.lemmas.List.Elements.{All-from_get_or}
use Rattle.std.proofs.lemmas.List.FromFn.{length-map-range_with_len}
use Rattle.ssd_geo.specs.BaseMatrix.{BaseMatrix}
use Rattle.ssd_geo.specs.BlockCells.{BlockCells}
use Rattle.ssd_geo.specs.Coding.{matrix_of, word_bytes_in}
use Rattle.ssd_geo.specs.Codewords.{IsCodeword}
use Rattle.ssd_geo.specs.Limits.{Sizes, word_bytes_of}
use Rattle.ssd_geo.specs.PageWord.{code_in}
use Rattle.ssd_geo.specs.Shape.{sizes_of}
use Rattle.ssd_geo.specs.StripeSum.{zero_word}
use Rattle.ssd_geo.specs.declared.base.BlockBase.{BlockBase}
use Rattle.ssd_geo.specs.declared.base.ChannelBase.{ChannelBase}
use Rattle.ssd_geo.specs.declared.row.Row.{Row}
use Rattle.ssd_geo.specs.declared.row.Row.TheVariants.{Empty}
use Rattle.ssd_histories.specs.Blocks.{AreSound, blank_block, block_at, is_due_block, is_frontier_block, is_victim_block}
use Rattle.ssd_histories.specs.PageMap.{NameApart, NameWithin, row_at}
use Rattle.ssd_histories.specs.PastBlocks.{slots_in}
use Rattle.ssd_histories.specs.Standing.{IsDueBlock, has_open_stripe, names_used}
use Rattle.ssd_histories.specs.Start.{Start, cells_at_start}
use Rattle.ssd_formats.specs.ImageContents.{ChannelImage, IsBaseOf, IsSaved, SavedBlock, blocks_of_saved, cells_of_block, cells_of_saved, is_stripe_open, slots_of_sizes, sum_of_saved}
use Rattle.ssd_formats.specs.ImageHead.{Head, matrix_of_head}
use Rattle.channel_base.proofs.ZeroWords.{zero_codewords}
use Rattle.contents_start.specs.ContentsStart.{ContentsMakeStarts, LoadedDiesMakeStarts}
use Rattle.contents_start.proofs.HeadFields.{fields_of_base, matrix_is}
use Rattle.contents_start.proofs.SavedBlocks.{all_due, all_few_erases, one_frontier, one_victim, used_fits}
use Rattle.contents_start.proofs.SavedCells.{HasDuePages, cells_are_saved, has_due_pages, no_block}
use Rattle.contents_start.proofs.SavedRows.{is_used_in, row_is_used, rows_name_apart, rows_name_within, saved_row_at}
use Rattle.contents_start.proofs.SavedSums.{no_sum, on_sum, sum_has_codewords, sum_is_long}

-- a base of contents that have a spelling
module _ (head : Head) (channel : ℕ) (saved : ChannelImage) (base : ChannelBase) (is_saved : IsSaved head channel saved)
    (b : IsBaseOf head channel saved base) where
  -- the slots of a superblock
  slots_are : slots_of_sizes head.sizes ≡ slots_in base
  slots_are = ap (λ (sizes : Sizes). slots_of_sizes sizes) (sym b.shape)

  superblocks_are : length saved.blocks ≡ base.shape.superblocks
  superblocks_are = is_saved.block_count ∙ ap (λ (sizes : Sizes). sizes.superblocks) (sym b.shape)

  pub as_many_blocks : length base.blocks ≡ base.shape.superblocks
  as_many_blocks =
      ap (λ (all : List BlockBase). length all) b.blocks
      ∙ length-map saved.blocks (λ (one : SavedBlock). one.block) ∙ superblocks_are

  due_in_base : list_all (is_due_block (slots_in base)) base.blocks ≡ true
  due_in_base =
      ap (λ (all : List BlockBase). list_all (is_due_block (slots_in base)) all) b.blocks
      ∙ ap (λ (slots : ℕ). list_all (is_due_block slots) (blocks_of_saved saved.blocks)) (sym slots_are)
      ∙ all_due head channel saved.blocks is_saved.blocks

  pub blocks_sound : AreSound (slots_in base) base.blocks
  blocks_sound =
      let slots : 1 * 1 ≤ slots_in base =
      mul-le-mul {n₁ = 1} {m₁ = 1} {n₂ = base.shape.pages} {m₂ = base.shape.dies - 1} (omega (arith, base.shape.within)) (omega (arith, base.shape.within)) in
      record {
        some_slots = omega arith;
        few = omega (arith, base.shape.within, as_many_blocks);
        one_frontier =
            subst (λ (all : List BlockBase). count_by is_frontier_block all ≤ 1) (sym b.blocks)
            (one_frontier head channel saved.blocks is_saved.blocks);
        one_victim =
            subst (λ (all : List BlockBase). count_by is_victim_block all ≤ 1) (sym b.blocks)
            (one_victim head channel saved.blocks is_saved.blocks);
        due = due_in_base;
      }

  pub few_erases : All (λ (block : BlockBase). block.erases ≤ 2 ^ 31) base.blocks
  few_erases =
      subst (λ (all : List BlockBase). All (λ (block : BlockBase). block.erases ≤ 2 ^ 31) all) (sym b.blocks)
      (all_few_erases head channel saved.blocks is_saved.blocks)

  pub as_many_rows : length base.rows ≡ base.shape.rows
  as_many_rows =
      ap (λ (rows : List Row). length rows) b.rows ∙ is_saved.row_count
      ∙ ap (λ (sizes : Sizes). sizes.rows) (sym b.shape)

  pub rows_within : NameWithin base.shape.superblocks (slots_in base) base.rows
  rows_within =
      let sizes : Sizes = head.sizes in
      let due : list_all (is_due_block (slots_in base)) (blocks_of_saved saved.blocks) ≡ true =
      ap (λ (all : List BlockBase). list_all (is_due_block (slots_in base)) all) (sym b.blocks) ∙ due_in_base in
      subst (λ (rows : List Row). NameWithin base.shape.superblocks (slots_in base) rows) (sym b.rows)
      (subst (λ (superblocks : ℕ). NameWithin superblocks (slots_in base) saved.rows)
      (ap (λ (of : Sizes). of.superblocks) (sym b.shape))
      (rows_name_within sizes (blocks_of_saved saved.blocks) saved.rows (slots_in base)
      (used_fits (slots_in base) (blocks_of_saved saved.blocks) due) is_saved.rows))

  pub rows_apart : NameApart base.rows
  rows_apart =
      subst (λ (rows : List Row). NameApart rows) (sym b.rows)
      (rows_name_apart head.sizes (blocks_of_saved saved.blocks) saved.rows is_saved.rows)

  used_is : (of : Row) → is_used_in base.blocks of ≡ names_used base of
  used_is Row.Empty = refl
  used_is Row.Lost = refl
  used_is (Row.Page slot serial) = refl

  pub rows_used : All (λ (row : Row). IsTrue (names_used base row)) base.rows
  rows_used =
      All-from_get_or (λ (row : Row). IsTrue (names_used base row)) base.rows Empty
      (λ row below.
      sym (used_is (row_at base.rows row))
      ∙ ap (λ (rows : List Row). is_used_in base.blocks (row_at rows row)) b.rows
      ∙ ap (λ (all : List BlockBase). is_used_in all (row_at saved.rows row)) b.blocks
      ∙ row_is_used head.sizes (blocks_of_saved saved.blocks) (take row saved.rows) (row_at saved.rows row)
      (saved_row_at head.sizes (blocks_of_saved saved.blocks) saved.rows [] is_saved.rows row))

  -- its running sum
  bytes_are : word_bytes_of head.sizes ≡ word_bytes_in base.shape
  bytes_are = ap (λ (sizes : Sizes). word_bytes_of sizes) (sym b.shape)

  pub sum_bytes : length base.sum ≡ word_bytes_in base.shape
  sum_bytes =
      ap (λ (word : List ℕ). length word) b.sum
      ∙ on_sum head channel (zero_word (word_bytes_of head.sizes)) (λ (word : List ℕ). length word ≡ word_bytes_of head.sizes)
      (length-replicate (word_bytes_of head.sizes) 0) (sum_is_long head channel) saved.blocks [] is_saved.blocks
      ∙ bytes_are

  none_open : (some : Bool) → not some ≡ true → some ≡ false
  none_open true e = absurd (cc)
  none_open false e = refl

  pub sum_of_none : IsTrue (not (has_open_stripe base)) → base.sum ≡ zero_word (word_bytes_in base.shape)
  sum_of_none e =
      let none : list_any (is_stripe_open (sizes_of base.shape)) base.blocks ≡ false = none_open (has_open_stripe base) e in
      let none_saved : list_any (is_stripe_open head.sizes) (blocks_of_saved saved.blocks) ≡ false =
      ap (λ (sizes : Sizes). list_any (is_stripe_open sizes) (blocks_of_saved saved.blocks)) (sym b.shape)
      ∙ ap (λ (all : List BlockBase). list_any (is_stripe_open (sizes_of base.shape)) all) (sym b.blocks)
      ∙ none in
      b.sum ∙ no_sum head.sizes (zero_word (word_bytes_of head.sizes)) saved.blocks none_saved
      ∙ ap (λ (n : ℕ). zero_word n) bytes_are

  pub sum_codewords : (f : ℕ) → f < base.shape.words → IsCodeword (matrix_of base) (code_in (sizes_of base.shape) base.sum f)
  sum_codewords f below =
      let words : base.shape.words ≡ head.sizes.words = ap (λ (sizes : Sizes). sizes.words) b.shape in
      let in_words : f < head.sizes.words = omega (arith, below, words) in
      let Holds : List ℕ → Type 0 = λ (word : List ℕ). IsCodeword (matrix_of_head head) (code_in head.sizes word f) in
      let of_saved : Holds (sum_of_saved head.sizes saved) =
      on_sum head channel (zero_word (word_bytes_of head.sizes)) Holds
      (zero_codewords head.sizes (matrix_of_head head) (word_bytes_of head.sizes) f)
      (λ before one part is_open. sum_has_codewords head channel before one part is_open f in_words) saved.blocks [] is_saved.blocks in
      subst (λ (m : BaseMatrix). IsCodeword m (code_in (sizes_of base.shape) base.sum f))
      (sym (matrix_is head channel saved base b))
      (subst (λ (sizes : Sizes). IsCodeword (matrix_of_head head) (code_in sizes base.sum f)) (sym b.shape)
      (subst Holds (sym b.sum) of_saved))

-- the blocks of the dies of a start
block_due : (head : Head) (channel : ℕ) (saved : ChannelImage) (start : Start) → IsSaved head channel saved
    → IsBaseOf head channel saved start.base → start.cells ≡ cells_of_saved head.sizes saved → (die sb : ℕ)
    → die < start.base.shape.dies → sb < start.base.shape.superblocks → IsDueBlock start die sb
block_due head channel saved start is_saved b cells die sb in_dies in_blocks =
    let in_saved_dies : die < head.sizes.dies = omega (arith, in_dies, ap (λ (sizes : Sizes). sizes.dies) b.shape) in
    let in_saved_blocks : sb < length saved.blocks =
    omega (arith, in_blocks, superblocks_are head channel saved start.base is_saved b) in
    let of : SavedBlock = get_or saved.blocks sb no_block in
    let block_is : block_at start.base.blocks sb ≡ of.block =
    ap (λ (blocks : List BlockBase). block_at blocks sb) b.blocks
    ∙ get_or-map (λ (one : SavedBlock). one.block) saved.blocks sb no_block blank_block in_saved_blocks in
    let cells_is : cells_at_start start die sb ≡ cells_of_block die of =
    cells_are_saved head.sizes saved start.cells die sb cells in_saved_dies in_saved_blocks in
    let known : HasDuePages (sizes_of start.base.shape) die sb (block_at start.base.blocks sb) (cells_at_start start die sb) =
    subst (λ (sizes : Sizes). HasDuePages sizes die sb (block_at start.base.blocks sb) (cells_at_start start die sb)) (sym b.shape)
    (subst (λ (block : BlockBase). HasDuePages head.sizes die sb block (cells_at_start start die sb)) (sym block_is)
    (subst (λ (cell : BlockCells). HasDuePages head.sizes die sb of.block cell) (sym cells_is)
    (has_due_pages head channel saved die sb is_saved in_saved_dies in_saved_blocks))) in
    record {
      at_least = known.at_least;
      at_most = known.at_most;
      exact = known.exact;
      erases = λ _. known.erases;
      whole = known.whole;
    }

pub contents_make_starts : ContentsMakeStarts
contents_make_starts head channel saved start h c is_saved b cells low high = record {
  blocks_count = as_many_blocks head channel saved start.base is_saved b;
  blocks_sound = blocks_sound head channel saved start.base is_saved b;
  few_erases = few_erases head channel saved start.base is_saved b;
  rows_count = as_many_rows head channel saved start.base is_saved b;
  rows_within = rows_within head channel saved start.base is_saved b;
  rows_apart = rows_apart head channel saved start.base is_saved b;
  rows_used = rows_used head channel saved start.base is_saved b;
  sum_bytes = sum_bytes head channel saved start.base is_saved b;
  sum_of_none = sum_of_none head channel saved start.base is_saved b;
  sum_codewords = sum_codewords head channel saved start.base is_saved b;
  fields = fields_of_base head channel saved start.base h c b;
  limit_low = low;
  limit_high = high;
  dies_count =
      ap (λ (all : List (List BlockCells)). length all) cells
      ∙ length-map-range_with_len (λ (die : ℕ). map (cells_of_block die) saved.blocks) 0 head.sizes.dies
      ∙ ap (λ (sizes : Sizes). sizes.dies) (sym b.shape);
  blocks_due = block_due head channel saved start is_saved b cells;
}

pub loaded_dies_make_starts : LoadedDiesMakeStarts
loaded_dies_make_starts head channel saved dies start h c are cells low high =
    contents_make_starts head channel saved start h c are.is_saved are.is_base (cells ∙ are.cells_are) low high
