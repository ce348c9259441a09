-- A superblock whose parts were read and loaded is taken over.
use Rattle.std.proofs.Common.{◌≡◌, ℕ, ℤ, ◌*◌, ◌^◌, ◌<◌, ◌≤◌, ◌==◌, Bool, true, false, List, [], length, map, set, get_or, Some, refl, sym, ap, subst, ◌∙◌, arith}
use Rattle.std.specs.Prelude.{if◌then◌else◌, not}
use Rattle.std.specs.List.{list_all}
use Rattle.std.proofs.lemmas.Grind.{common_steps}
use Rattle.std.proofs.lemmas.List.{ext_get_or, get_or-map, length-map}
use Rattle.std.proofs.lemmas.List.Sums.{list_all-from_AllPass}
use Rattle.std.proofs.lemmas.Option.{get_or_from_slice_get, slice_get-get_or, slice_get_within}
use Rattle.ssd_geo.specs.BlockCells.{BlockCells}
use Rattle.ssd_geo.specs.Limits.{IsWithinLimits, Sizes, is_within, page_cells_of}
use Rattle.ssd_formats.proofs.SpelledHeads.{below_if}
use Rattle.ssd_formats.specs.Fields.{is_below}
use Rattle.ssd_formats.specs.ImageContents.{SavedBlock, are_pages, are_programmed_counts, blocks_of_saved, cells_of_block, is_saved_block, is_stripe_open, is_sum, may_be, slots_of_sizes}
use Rattle.ssd_formats.specs.ImageHead.{Head}
use Rattle.chan_dies.specs.DiesState.{blocks_in, no_die}
use Rattle.drive_dies.specs.Mounting.{EachBecomes}
use Rattle.onfi_cmd.specs.DieState.{DieState}
use Rattle.ssd_geo.specs.declared.base.BlockBase.{BlockBase}
use Rattle.image_contents.proofs.CountLists.{used_fits}
use Rattle.image_contents.proofs.SizeBounds.{few_slots}
use Rattle.image_contents.specs.DiesLoaded.{LoadsBlock, block_of, count_at, pages_in}
use Rattle.image_contents.specs.Parts.{IsFront}
use Rattle.image_contents.specs.Taken.{TakesBlock}
use Rattle.ssd_formats.proofs.SpelledContents.{within_if}

-- what became of the block of a die, by the die's number
loaded_at : (P : ℕ → DieState → DieState → Type 0) (olds news : List DieState) (die : ℕ) → EachBecomes P olds news → die < length news
    → P die (get_or olds die no_die) (get_or news die no_die)
loaded_at P olds news die each below =
    each.each die (get_or olds die no_die) (get_or news die no_die)
    (slice_get-get_or olds die no_die (omega (arith, each.count_stays, below)))
    (slice_get-get_or news die no_die below)

-- each die has as many pages as were asked
counts_of_pages : (sb erases cells : ℕ) (counts : List ℕ) (olds news : List DieState) → length counts ≡ length olds
    → EachBecomes (λ die old new. LoadsBlock sb erases (count_at counts die) cells old new) olds news → map length (pages_in sb news) ≡ counts
counts_of_pages sb erases cells counts olds news long each =
    let pages : List (List (List ℤ)) = pages_in sb news in
    let many : length pages ≡ length news = length-map news (λ (die : DieState). (block_of sb die).pages) in
    let all : length (map length pages) ≡ length counts = length-map pages length ∙ many ∙ each.count_stays ∙ sym long in
    ext_get_or 0 (map length pages) counts all
    (λ die below.
    let within : die < length news = omega (arith, length-map pages length, many, below) in
    let in_pages : die < length pages = omega (arith, many, within) in
    let loads = loaded_at (λ k old new. LoadsBlock sb erases (count_at counts k) cells old new) olds news die each within in
    get_or-map length pages die [] 0 in_pages
    ∙ ap length (get_or-map (λ (of : DieState). (block_of sb of).pages) news die no_die [] within)
    ∙ loads.loaded.count_is)

-- and each page has its levels
all_pages : (sb erases cells : ℕ) (counts : List ℕ) (olds news : List DieState)
    → EachBecomes (λ die old new. LoadsBlock sb erases (count_at counts die) cells old new) olds news → list_all (are_pages cells) (pages_in sb news) ≡ true
all_pages sb erases cells counts olds news each =
    let pages : List (List (List ℤ)) = pages_in sb news in
    let many : length pages ≡ length news = length-map news (λ (die : DieState). (block_of sb die).pages) in
    list_all-from_AllPass (are_pages cells) pages
    (λ die d below.
    let within : die < length news = omega (arith, many, below) in
    let loads = loaded_at (λ k old new. LoadsBlock sb erases (count_at counts k) cells old new) olds news die each within in
    ap (are_pages cells) (get_or-map (λ (of : DieState). (block_of sb of).pages) news die no_die d within)
    ∙ loads.loaded.pages_are)

-- what a superblock of given parts is, behind those before
saved_of_parts : (head : Head) (channel : ℕ) (before : List SavedBlock) (saved : SavedBlock) (counts : List ℕ)
    → IsFront head channel (blocks_of_saved before) saved.block counts → is_below (2 ^ 32) saved.block.used ≡ true
    → length saved.pages ≡ head.sizes.dies → map length saved.pages ≡ counts → list_all (are_pages (page_cells_of head.sizes)) saved.pages ≡ true
    → is_sum head saved.block saved.sum ≡ true → is_saved_block head channel before saved ≡ true
saved_of_parts head channel before saved counts front below all counts_are pages_are sum_is =
    let sizes : Sizes = head.sizes in
    let block : BlockBase = saved.block in
    let number : length (blocks_of_saved before) ≡ length before = length-map before (λ (of : SavedBlock). of.block) in
    let may : may_be head channel before block.state ≡ true = rw (sym number) front.may_be in
    let erases : is_within 0 (2 ^ 31) block.erases ≡ true = within_if block.erases (2 ^ 31) front.erases in
    let dies : (length saved.pages == sizes.dies) ≡ true = rw all (grind (arith, common_steps)) in
    let programmed : are_programmed_counts sizes block.state (length before) block.used [] (map length saved.pages) ≡ true =
    rw (counts_are, sym number) front.counts_are in
    rw (may, erases, below, front.used, dies, programmed, pages_are, sum_is) refl

-- the sum that stays where no stripe is open
sum_taken : (b : Bool) (before after : List ℕ) → (not b ≡ true → after ≡ before) → after ≡ (if b then (if b then after else []) else before)
sum_taken true before after stays = refl
sum_taken false before after stays = stays refl

-- the same of a number that is that of the superblock
pub pages_at_number : (n m : ℕ) (news : List DieState) (pages : List (List (List ℤ))) → pages_in n news ≡ pages → n ≡ m → pages_in m news ≡ pages
pages_at_number n m news pages are same = ap (λ (k : ℕ). pages_in k news) (sym same) ∙ are

pub loads_at_number : (n m erases cells : ℕ) (counts : List ℕ) (olds news : List DieState)
    → EachBecomes (λ die old new. LoadsBlock n erases (count_at counts die) cells old new) olds news → n ≡ m
    → EachBecomes (λ die old new. LoadsBlock m erases (count_at counts die) cells old new) olds news
loads_at_number n m erases cells counts olds news each same =
    subst (λ (k : ℕ). EachBecomes (λ die old new. LoadsBlock k erases (count_at counts die) cells old new) olds news) same each

-- a superblock with what was read and loaded
abbrev pub taken_block : Sizes → BlockBase → ℕ → List DieState → List ℕ → SavedBlock
taken_block sizes block sb news sum = record {
  block = block;
  pages = pages_in sb news;
  sum = (if is_stripe_open sizes block then sum else []);
}

pub takes_block : (head : Head) (channel : ℕ) (before : List BlockBase) (block : BlockBase) (counts : List ℕ) (olds news : List DieState) (sum_before sum : List ℕ)
    → IsWithinLimits head.sizes → IsFront head channel before block counts → length counts ≡ head.sizes.dies → length olds ≡ head.sizes.dies
    → EachBecomes (λ die old new. LoadsBlock (length before) block.erases (count_at counts die) (page_cells_of head.sizes) old new) olds news
    → is_sum head block (if is_stripe_open head.sizes block then sum else []) ≡ true
    → (not (is_stripe_open head.sizes block) ≡ true → sum ≡ sum_before)
    → TakesBlock head channel before (taken_block head.sizes block (length before) news sum) olds news sum_before sum
takes_block head channel before block counts olds news sum_before sum limits front counts_all dies_all each right stays =
    let sizes : Sizes = head.sizes in
    let sb : ℕ = length before in
    let saved : SavedBlock = taken_block sizes block sb news sum in
    let fits : block.used ≤ slots_of_sizes sizes = used_fits (slots_of_sizes sizes) block.used block.state front.used in
    let slots : slots_of_sizes sizes ≤ 256 * 8 = few_slots sizes limits in
    let below : is_below (2 ^ 32) block.used ≡ true = below_if block.used (2 ^ 32) (omega (arith, fits, slots)) in
    let all : length (pages_in sb news) ≡ sizes.dies =
    length-map news (λ (die : DieState). (block_of sb die).pages) ∙ each.count_stays ∙ dies_all in
    record {
      is_saved = λ earlier is.
          saved_of_parts head channel earlier saved counts (subst (λ (l : List BlockBase). IsFront head channel l block counts) is front) below all
          (counts_of_pages sb block.erases (page_cells_of sizes) counts olds news (counts_all ∙ sym dies_all) each)
          (all_pages sb block.erases (page_cells_of sizes) counts olds news each) right;
      cells_are = record {
        count_stays = each.count_stays;
        each = λ die old new was is.
            let loads = each.each die old new was is in
            let within : die < length news = slice_get_within news die new is in
            let held : get_or (pages_in sb news) die [] ≡ (block_of sb new).pages =
            get_or-map (λ (of : DieState). (block_of sb of).pages) news die no_die [] within
            ∙ ap (λ (of : DieState). (block_of sb of).pages) (get_or_from_slice_get news die new no_die is) in
            let same : block_of sb new ≡ cells_of_block die saved =
            λ i. record { erases = loads.loaded.erases_are i; pages = sym held i } in
            loads.changes.told_are ∙ ap (λ (cells : BlockCells). Some (set (blocks_in old) sb cells)) same;
      };
      sum_is = sum_taken (is_stripe_open sizes block) sum_before sum stays;
    }
