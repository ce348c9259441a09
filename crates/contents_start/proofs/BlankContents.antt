-- What a blank image tells of a channel has a spelling: the proof of the law of specs/ContentsStart.antt.
use Rattle.std.proofs.Common.{◌≡◌, refl, ap, sym, ◌∙◌, ℕ, ℤ, zero, suc, ◌+◌, ◌≤◌, ◌^◌, ◌&&◌, ◌||◌, ◌==◌, not, Bool, true, false, List, [], ◌∷◌, ◌++◌, length, map, replicate, arith}
use Rattle.std.specs.List.{list_all, range_with_len}
use Rattle.std.proofs.lemmas.Bool.Decides.{nat_tests}
use Rattle.std.proofs.lemmas.List.{length-append, length-replicate}
use Rattle.std.proofs.lemmas.List.FromFn.{length-map-range_with_len}
use Rattle.ssd_geo.specs.Limits.{IsWithinLimits, Sizes, is_within, page_cells_of}
use Rattle.ssd_geo.specs.declared.base.BlockBase.{BlockBase}
use Rattle.ssd_geo.specs.declared.row.Row.{Row}
use Rattle.ssd_geo.specs.declared.row.Row.TheVariants.{Empty}
use Rattle.ssd_geo.proofs.Stripes.{due_pages_ends}
use Rattle.ssd_histories.specs.Blocks.{has_due_used, is_frontier_block, is_victim_block}
use Rattle.ssd_histories.specs.States.{is_bad, is_frontier, is_victim}
use Rattle.ssd_formats.specs.Fields.{is_below}
use Rattle.ssd_formats.specs.ImageContents.{SavedBlock, are_pages, are_programmed_counts, are_saved_blocks, are_saved_rows, blank_saved, blocks_of_saved, blank_channel, has_before, is_factory_bad, is_programmed_count, is_saved_block, is_sum, may_be, slots_of_sizes}
use Rattle.ssd_formats.specs.ImageHead.{Head}
use Rattle.ssd_formats.proofs.HeadLaws.{head_is_within_limits}
use Rattle.channel_base.proofs.BlankChannels.{blank_block_of, blank_state, none_used}
use Rattle.contents_start.specs.ContentsStart.{BlankContentsAreSaved}
use Rattle.std.proofs.lemmas.Bool.{eq-eqb}

zero_within : (high : ℕ) → is_within 0 high 0 ≡ true
zero_within high = grind (arith, nat_tests)

-- no page is due in a superblock without a used slot
no_count : (sizes : Sizes) (listed : Bool) (sb die : ℕ) → 2 ≤ sizes.dies →
    is_programmed_count sizes (blank_state listed) sb 0 die 0 ≡ true
no_count sizes true sb die many =
    ap (λ (due : ℕ). is_within due sizes.pages 0) (due_pages_ends sizes.dies sb sizes.pages die many).none
    ∙ zero_within sizes.pages
no_count sizes false sb die many =
    ap (λ (due : ℕ). 0 == due) (due_pages_ends sizes.dies sb sizes.pages die many).none

abbrev no_pages : ℕ → List (List (List ℤ))
no_pages n = replicate n []

no_counts : (sizes : Sizes) (listed : Bool) (sb n : ℕ) (before : List ℕ) → 2 ≤ sizes.dies →
    are_programmed_counts sizes (blank_state listed) sb 0 before (map length (no_pages n)) ≡ true
no_counts sizes listed sb zero before many = refl
no_counts sizes listed sb (suc n) before many =
    rw (no_count sizes listed sb (length before) many, zero_within sizes.pages)
    (no_counts sizes listed sb n (before ++ 0 ∷ []) many)

pages_right : (cells n : ℕ) → list_all (are_pages cells) (no_pages n) ≡ true
pages_right cells zero = refl
pages_right cells (suc n) = pages_right cells n

-- a superblock that is neither the frontier nor the victim, and bad where it is listed, may stand behind any others
may_stand : (listed frontier victim : Bool) →
    (not (is_frontier (blank_state listed) && frontier) && not (is_victim (blank_state listed) && victim)
    && (is_bad (blank_state listed) || not listed)) ≡ true
may_stand true frontier victim = refl
may_stand false frontier victim = refl

-- it has no open stripe, so no sum
no_sum_is : (head : Head) (listed : Bool) → is_sum head (record { state = blank_state listed; erases = 0; used = 0 }) [] ≡ true
no_sum_is head true = refl
no_sum_is head false = refl

pub all_true : (b1 b2 b3 b4 b5 b6 b7 b8 : Bool) → b1 ≡ true → b2 ≡ true → b3 ≡ true → b4 ≡ true → b5 ≡ true → b6 ≡ true →
    b7 ≡ true → b8 ≡ true → (b1 && b2 && b3 && b4 && b5 && b6 && b7 && b8) ≡ true
all_true b1 b2 b3 b4 b5 b6 b7 b8 e1 e2 e3 e4 e5 e6 e7 e8 = rw (e1, e2, e3, e4, e5, e6, e7, e8) refl

blank_is_saved : (head : Head) (channel : ℕ) (before : List SavedBlock) → 2 ≤ head.sizes.dies →
    is_saved_block head channel before (blank_saved head channel (length before)) ≡ true
blank_is_saved head channel before many =
    let sizes : Sizes = head.sizes in
    let sb : ℕ = length before in
    let listed : Bool = is_factory_bad head channel sb in
    all_true (may_be head channel before (blank_state listed)) (is_within 0 (2 ^ 31) 0) (is_below (2 ^ 32) 0)
    (has_due_used (slots_of_sizes sizes) (blank_state listed) 0) (length (no_pages sizes.dies) == sizes.dies)
    (are_programmed_counts sizes (blank_state listed) sb 0 [] (map length (no_pages sizes.dies)))
    (list_all (are_pages (page_cells_of sizes)) (no_pages sizes.dies)) (is_sum head (blank_block_of head channel sb) [])
    (may_stand listed (has_before is_frontier_block before) (has_before is_victim_block before))
    (zero_within (2 ^ 31)) refl (none_used (slots_of_sizes sizes) listed)
    (eq-eqb (length (no_pages sizes.dies)) sizes.dies (length-replicate sizes.dies []))
    (no_counts sizes listed sb sizes.dies [] many) (pages_right (page_cells_of sizes) sizes.dies) (no_sum_is head listed)

blanks_are_saved : (head : Head) (channel n from : ℕ) (before : List SavedBlock) → 2 ≤ head.sizes.dies → length before ≡ from →
    are_saved_blocks head channel before (map (blank_saved head channel) (range_with_len from n)) ≡ true
blanks_are_saved head channel zero from before many here = refl
blanks_are_saved head channel (suc n) from before many here =
    let next : SavedBlock = blank_saved head channel from in
    let first : is_saved_block head channel before next ≡ true =
    ap (λ (sb : ℕ). is_saved_block head channel before (blank_saved head channel sb)) (sym here)
    ∙ blank_is_saved head channel before many in
    ap (λ (b : Bool). b && are_saved_blocks head channel (before ++ next ∷ []) (map (blank_saved head channel) (range_with_len (from + 1) n)))
    first
    ∙ blanks_are_saved head channel n (from + 1) (before ++ next ∷ []) many
    (omega (arith, length-append before (next ∷ []), here))

empty_rows : (sizes : Sizes) (blocks : List BlockBase) (n : ℕ) (before : List Row) →
    are_saved_rows sizes blocks before (replicate n Empty) ≡ true
empty_rows sizes blocks zero before = refl
empty_rows sizes blocks (suc n) before = empty_rows sizes blocks n (before ++ Empty ∷ [])

pub blank_contents_are_saved : BlankContentsAreSaved
blank_contents_are_saved head channel h =
    let limits : IsWithinLimits head.sizes = head_is_within_limits head h in
    record {
      block_count = length-map-range_with_len (blank_saved head channel) 0 head.sizes.superblocks;
      blocks = blanks_are_saved head channel head.sizes.superblocks 0 [] (omega (arith, limits.dies_low)) refl;
      row_count = length-replicate head.sizes.rows Empty;
      rows = empty_rows head.sizes (blocks_of_saved (blank_channel head channel).blocks) head.sizes.rows [];
    }
