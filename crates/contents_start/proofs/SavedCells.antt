-- What is known of the cells of contents that have a spelling: each block has the pages that are due.
use Rattle.std.proofs.Common.{◌≡◌, refl, ap, sym, ◌∙◌, ℕ, zero, suc, ◌+◌, ◌≤◌, ◌<◌, ◌==◌, not, Bool, true, false, List, [], ◌∷◌, length, map, take, get_or, ℤ, arith}
use Rattle.std.specs.Prelude.{All, if◌then◌else◌}
use Rattle.std.specs.List.{list_all}
use Rattle.std.proofs.lemmas.Bool.Decides.{nat_tests}
use Rattle.std.proofs.lemmas.List.{get_or-map, length-map, length-take-le}
use Rattle.std.proofs.lemmas.List.Elements.{All-cons, All-nil}
use Rattle.std.proofs.lemmas.List.FromFn.{get_or-map-range_with_len}
use Rattle.ssd_geo.specs.BlockCells.{BlockCells, blank_cells, cells_at}
use Rattle.ssd_geo.specs.Limits.{Sizes, is_level, is_within, page_cells_of}
use Rattle.ssd_geo.specs.Superblock.{due_pages}
use Rattle.ssd_geo.specs.declared.base.BlockBase.{BlockBase}
use Rattle.ssd_geo.specs.declared.superblock.SbState.{SbState}
use Rattle.ssd_histories.specs.States.{is_bad}
use Rattle.ssd_formats.specs.ImageContents.{ChannelImage, IsSaved, SavedBlock, are_pages, cells_of_block, cells_of_saved, is_page, is_programmed_count}
use Rattle.ssd_formats.specs.ImageHead.{Head}
use Rattle.contents_start.proofs.SavedBlocks.{count_at, part_at}
use Rattle.std.proofs.lemmas.Bool.{and_parts, eqb-true}

-- a superblock of an image without pages
abbrev pub no_block : SavedBlock
no_block = record { block = record { state = SbState.Free; erases = 0; used = 0 }; pages = []; sum = [] }

-- the cells of a block are those of its superblock
pub cells_are_saved : (sizes : Sizes) (saved : ChannelImage) (cells : List (List BlockCells)) (die sb : ℕ)
    → cells ≡ cells_of_saved sizes saved → die < sizes.dies → sb < length saved.blocks
    → cells_at (get_or cells die []) sb ≡ cells_of_block die (get_or saved.blocks sb no_block)
cells_are_saved sizes saved cells die sb are in_dies in_blocks =
    let of_die : ℕ → List BlockCells = λ (number : ℕ). map (cells_of_block number) saved.blocks in
    ap (λ (all : List (List BlockCells)). cells_at (get_or all die []) sb) are
    ∙ ap (λ (blocks : List BlockCells). cells_at blocks sb)
    (get_or-map-range_with_len of_die 0 sizes.dies die die [] in_dies (omega arith))
    ∙ get_or-map (cells_of_block die) saved.blocks sb no_block blank_cells in_blocks

-- the number of programmed pages, from its test
at_least_due : (due pages n : ℕ) → is_within due pages n ≡ true → due ≤ n
at_least_due due pages n e = grind (arith, nat_tests)

count_low : (bad : Bool) (due pages n : ℕ) → (if bad then is_within due pages n else (n == due)) ≡ true → due ≤ n
count_low true due pages n e = at_least_due due pages n e
count_low false due pages n e = omega (arith, eqb-true n due e)

count_exact : (bad : Bool) (due pages n : ℕ) → (if bad then is_within due pages n else (n == due)) ≡ true → not bad ≡ true → n ≡ due
count_exact true due pages n e sound = absurd (cc)
count_exact false due pages n e sound = eqb-true n due e

-- each page has a level for each cell
pages_whole : (cells : ℕ) (pages : List (List ℤ)) → are_pages cells pages ≡ true → All (λ (levels : List ℤ). length levels ≡ cells) pages
pages_whole cells [] e = All-nil (λ (levels : List ℤ). length levels ≡ cells)
pages_whole cells (page ∷ pages) e =
    let both = and_parts (is_page cells page) (are_pages cells pages) e in
    All-cons (λ (levels : List ℤ). length levels ≡ cells) page pages
    (eqb-true (length page) cells (and_parts (length page == cells) (list_all is_level page) both.0).0)
    (pages_whole cells pages both.1)

dies_whole : (cells : ℕ) (dies : List (List (List ℤ))) → list_all (are_pages cells) dies ≡ true → (die : ℕ)
    → All (λ (levels : List ℤ). length levels ≡ cells) (get_or dies die [])
dies_whole cells [] e die = All-nil (λ (levels : List ℤ). length levels ≡ cells)
dies_whole cells (pages ∷ dies) e zero =
    pages_whole cells pages (and_parts (are_pages cells pages) (list_all (are_pages cells) dies) e).0
dies_whole cells (pages ∷ dies) e (suc die) =
    dies_whole cells dies (and_parts (are_pages cells pages) (list_all (are_pages cells) dies) e).1 die

-- what is known of a block of a die
pub record HasDuePages (sizes : Sizes) (die sb : ℕ) (block : BlockBase) (cells : BlockCells) : Type 0 where
  pub at_least : due_pages sizes.dies sb block.used die ≤ length cells.pages
  pub at_most : length cells.pages ≤ sizes.pages
  pub exact : not (is_bad block.state) ≡ true → length cells.pages ≡ due_pages sizes.dies sb block.used die
  pub erases : cells.erases ≡ block.erases
  pub whole : All (λ (levels : List ℤ). length levels ≡ page_cells_of sizes) cells.pages

pub has_due_pages : (head : Head) (channel : ℕ) (saved : ChannelImage) (die sb : ℕ) → IsSaved head channel saved
    → die < head.sizes.dies → sb < length saved.blocks
    → HasDuePages head.sizes die sb (get_or saved.blocks sb no_block).block (cells_of_block die (get_or saved.blocks sb no_block))
has_due_pages head channel saved die sb is in_dies in_blocks =
    let sizes : Sizes = head.sizes in
    let of : SavedBlock = get_or saved.blocks sb no_block in
    let part = part_at head channel saved.blocks [] is.blocks sb no_block in_blocks in
    let here : length (take sb saved.blocks) ≡ sb = length-take-le sb saved.blocks (omega (arith, in_blocks)) in
    let long : length (map length of.pages) ≡ length of.pages = length-map of.pages length in
    let in_counts : die < length (map length of.pages) = omega (arith, long, part.dies, in_dies) in
    let count = count_at sizes of.block.state (length (take sb saved.blocks)) of.block.used (map length of.pages) [] part.counts die in_counts in
    let n : ℕ = length (get_or of.pages die []) in
    let same : get_or (map length of.pages) die 0 ≡ n =
    get_or-map (λ (pages : List (List ℤ)). length pages) of.pages die [] 0 (omega (arith, part.dies, in_dies)) in
    let programmed : is_programmed_count sizes of.block.state sb of.block.used die n ≡ true =
    ap (λ (number : ℕ). is_programmed_count sizes of.block.state number of.block.used die n) (sym here)
    ∙ ap (λ (m : ℕ). is_programmed_count sizes of.block.state (length (take sb saved.blocks)) of.block.used die m) (sym same)
    ∙ ap (λ (d : ℕ). is_programmed_count sizes of.block.state (length (take sb saved.blocks)) of.block.used d (get_or (map length of.pages) die 0))
    (at_die die)
    ∙ count.programmed in
    let due : ℕ = due_pages sizes.dies sb of.block.used die in
    record {
      at_least = count_low (is_bad of.block.state) due sizes.pages n programmed;
      at_most = omega (arith, same, count.few);
      exact = λ sound. count_exact (is_bad of.block.state) due sizes.pages n programmed sound;
      erases = refl;
      whole = dies_whole (page_cells_of sizes) of.pages part.pages die;
    }
  where
    at_die : (number : ℕ) → number ≡ length {A = ℕ} [] + number
    at_die number = omega arith
