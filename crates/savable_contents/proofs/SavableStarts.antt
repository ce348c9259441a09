-- With contents that have a spelling a channel begins so that it could be saved, and so do the channels of a run.
use Rattle.std.proofs.Common.{◌≡◌, refl, ap, sym, subst, ◌∙◌, ℕ, zero, suc, ◌+◌, ◌<◌, ◌&&◌, ◌||◌, ◌==◌, not, Bool, true, false, List, [], ◌∷◌, length, take, get_or, slice_get, Some, ℤ, add-zero, arith}
use Rattle.std.specs.Prelude.{All}
use Rattle.std.specs.List.{list_all}
use Rattle.std.proofs.lemmas.Bool.{and_parts}
use Rattle.std.proofs.lemmas.List.{get_or-map, length-take-le}
use Rattle.std.proofs.lemmas.List.Elements.{All-cons, All-nil}
use Rattle.channel_ends.specs.EndedRuns.{AreSavable}
use Rattle.contents_end.specs.ContentsEnd.{IsOfHead, IsSavable}
use Rattle.contents_start.proofs.SavedBlocks.{IsPart, part_at}
use Rattle.contents_start.proofs.SavedCells.{cells_are_saved, no_block}
use Rattle.run_laws.specs.Runs.{runs_with}
use Rattle.run_laws.specs.Starts.{Handed, start_of, starts_from}
use Rattle.saved_drive.proofs.SavedChannels.{saved_serials_are_small}
use Rattle.savable_contents.specs.SavableContents.{ContentsAreSavable, RunsOfContentsAreSavable}
use Rattle.ssd_formats.specs.ImageContents.{ChannelImage, IsBaseOf, IsSaved, SavedBlock, are_pages, cells_of_block, cells_of_saved, has_before, is_factory_bad, is_page, may_be}
use Rattle.ssd_formats.specs.ImageHead.{Head}
use Rattle.ssd_geo.specs.BlockCells.{BlockCells}
use Rattle.ssd_geo.specs.Limits.{Sizes, is_level, page_cells_of}
use Rattle.ssd_geo.specs.Shape.{sizes_of}
use Rattle.ssd_geo.specs.declared.base.BlockBase.{BlockBase}
use Rattle.ssd_geo.specs.declared.entry.Entry.{Entry}
use Rattle.ssd_geo.specs.declared.shape.Shape.{Shape}
use Rattle.ssd_geo.specs.declared.superblock.SbState.{SbState}
use Rattle.ssd_histories.specs.Blocks.{blank_block, block_at, is_frontier_block, is_victim_block}
use Rattle.ssd_histories.specs.Start.{Start, cells_at_start}
use Rattle.ssd_histories.specs.States.{is_bad, is_frontier, is_victim}

-- the levels of pages that may stand in an image are levels
pages_level : (cells : ℕ) (pages : List (List ℤ)) → are_pages cells pages ≡ true
    → All (λ (page : List ℤ). list_all is_level page ≡ true) pages
pages_level cells [] e = All-nil (λ (page : List ℤ). list_all is_level page ≡ true)
pages_level cells (page ∷ pages) e =
    let both = and_parts (is_page cells page) (are_pages cells pages) e in
    All-cons (λ (page : List ℤ). list_all is_level page ≡ true) page pages
    (and_parts (length page == cells) (list_all is_level page) both.0).1
    (pages_level cells pages both.1)

-- and so are those of each die
dies_level : (cells : ℕ) (dies : List (List (List ℤ))) → list_all (are_pages cells) dies ≡ true → (die : ℕ)
    → All (λ (page : List ℤ). list_all is_level page ≡ true) (get_or dies die [])
dies_level cells [] e die = All-nil (λ (page : List ℤ). list_all is_level page ≡ true)
dies_level cells (pages ∷ dies) e zero =
    pages_level cells pages (and_parts (are_pages cells pages) (list_all (are_pages cells) dies) e).0
dies_level cells (pages ∷ dies) e (suc die) =
    dies_level cells dies (and_parts (are_pages cells pages) (list_all (are_pages cells) dies) e).1 die

-- a superblock that is listed is bad
bad_if_listed : (bad listed : Bool) → (bad || not listed) ≡ true → listed ≡ true → bad ≡ true
bad_if_listed true listed either is = refl
bad_if_listed false true either is = absurd (cc)
bad_if_listed false false either is = absurd (cc)

part_is_bad : (head : Head) (channel : ℕ) (before : List SavedBlock) (saved : SavedBlock) → IsPart head channel before saved
    → is_factory_bad head channel (length before) ≡ true → is_bad saved.block.state ≡ true
part_is_bad head channel before saved part listed =
    let state : SbState = saved.block.state in
    let t1 : Bool = not (is_frontier state && has_before is_frontier_block before) in
    let t2 : Bool = not (is_victim state && has_before is_victim_block before) in
    let t3 : Bool = is_bad state || not (is_factory_bad head channel (length before)) in
    bad_if_listed (is_bad state) (is_factory_bad head channel (length before)) (and_parts (t1 && t2) t3 part.may).1 listed

-- a start with contents that have a spelling
module _ (head : Head) (channel : ℕ) (saved : ChannelImage) (start : Start) (is_saved : IsSaved head channel saved)
    (b : IsBaseOf head channel saved start.base) (cells : start.cells ≡ cells_of_saved head.sizes saved) where
  in_blocks : (sb : ℕ) → sb < start.base.shape.superblocks → sb < length saved.blocks
  in_blocks sb below =
      omega (arith, below, is_saved.block_count, ap (λ (sizes : Sizes). sizes.superblocks) b.shape)

  part_of_superblock : (sb : ℕ) → sb < start.base.shape.superblocks
      → IsPart head channel (take sb saved.blocks) (get_or saved.blocks sb no_block)
  part_of_superblock sb below = part_at head channel saved.blocks [] is_saved.blocks sb no_block (in_blocks sb below)

  listed_bad : (sb : ℕ) → sb < start.base.shape.superblocks → is_factory_bad head channel sb ≡ true
      → is_bad (block_at start.base.blocks sb).state ≡ true
  listed_bad sb below listed =
      let here : length (take sb saved.blocks) ≡ sb = length-take-le sb saved.blocks (omega (arith, in_blocks sb below)) in
      let block_is : block_at start.base.blocks sb ≡ (get_or saved.blocks sb no_block).block =
      ap (λ (blocks : List BlockBase). block_at blocks sb) b.blocks
      ∙ get_or-map (λ (one : SavedBlock). one.block) saved.blocks sb no_block blank_block (in_blocks sb below) in
      ap (λ (block : BlockBase). is_bad block.state) block_is
      ∙ part_is_bad head channel (take sb saved.blocks) (get_or saved.blocks sb no_block) (part_of_superblock sb below)
      (ap (λ (number : ℕ). is_factory_bad head channel number) here ∙ listed)

  levels : (die sb : ℕ) → die < start.base.shape.dies → sb < start.base.shape.superblocks
      → All (λ (page : List ℤ). list_all is_level page ≡ true) (cells_at_start start die sb).pages
  levels die sb in_dies below =
      let in_saved : die < head.sizes.dies = omega (arith, in_dies, ap (λ (sizes : Sizes). sizes.dies) b.shape) in
      let of : SavedBlock = get_or saved.blocks sb no_block in
      let cells_is : cells_at_start start die sb ≡ cells_of_block die of =
      cells_are_saved head.sizes saved start.cells die sb cells in_saved (in_blocks sb below) in
      subst (λ (block : BlockCells). All (λ (page : List ℤ). list_all is_level page ≡ true) block.pages) (sym cells_is)
      (dies_level (page_cells_of head.sizes) of.pages (part_of_superblock sb below).pages die)

  start_is_savable : IsSavable head channel start
  start_is_savable = record {
    of_head = record {
      shape = b.shape;
      session = b.session;
      number = b.number;
      entries = b.entries;
      read_levels = b.read_levels;
      iterations = b.iterations;
      step = b.step;
      law = b.law;
      weak = b.weak;
    };
    listed_bad = listed_bad;
    serials = saved_serials_are_small head channel saved start.base is_saved b;
    levels = levels;
  }

pub contents_are_savable : ContentsAreSavable
contents_are_savable head channel saved start is_saved b cells = start_is_savable head channel saved start is_saved b cells

-- ---- the channels of a run, from a number on

starts_are_savable : (shape : Shape) (head : Head) (limit channel : ℕ) (saved : List ChannelImage) (handed : List Handed)
    (pasts : List (List Entry)) → sizes_of shape ≡ head.sizes
    → ((n : ℕ) (contents : ChannelImage) → slice_get saved n ≡ Some contents → IsSaved head (channel + n) contents)
    → AreSavable head channel (runs_with (starts_from shape head limit channel saved handed) pasts)
starts_are_savable shape head limit channel [] handed pasts sizes_are each = tt
starts_are_savable shape head limit channel (contents ∷ saved) [] pasts sizes_are each = tt
starts_are_savable shape head limit channel (contents ∷ saved) (own ∷ handed) [] sizes_are each = tt
starts_are_savable shape head limit channel (contents ∷ saved) (own ∷ handed) (past ∷ pasts) sizes_are each =
    let is_saved : IsSaved head channel contents =
    subst (λ (n : ℕ). IsSaved head n contents) (add-zero channel) (each 0 contents refl) in
    let is_base : IsBaseOf head channel contents (start_of shape head limit channel contents own).base =
    record {
      shape = sizes_are;
      session = refl;
      blocks = refl;
      rows = refl;
      sum = refl;
      number = refl;
      entries = refl;
      read_levels = refl;
      iterations = refl;
      step = refl;
      law = refl;
      weak = refl;
    } in
    let further : (n : ℕ) → channel + suc n ≡ channel + 1 + n = λ n. omega arith in (
      contents_are_savable head channel contents (start_of shape head limit channel contents own) is_saved is_base refl,
      starts_are_savable shape head limit (channel + 1) saved handed pasts sizes_are
          (λ n other at. subst (λ (k : ℕ). IsSaved head k other) (further n) (each (suc n) other at)),
    )

pub runs_of_contents_are_savable : RunsOfContentsAreSavable
runs_of_contents_are_savable head saved limit handed run spelled begins =
    subst (λ (starts : List Start). AreSavable head 0 (runs_with starts run.pasts)) (sym begins.starts_are)
    (starts_are_savable begins.shape head limit 0 saved handed run.pasts begins.sizes_are
    (λ n contents at.
    let here : n ≡ 0 + n = omega arith in
    subst (λ (k : ℕ). IsSaved head k contents) here (spelled n contents at)))
