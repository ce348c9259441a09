-- Superblocks have a spelling with the pages of their dies and the running sum, where each has the pages that are due.
use Rattle.std.proofs.Common.{◌≡◌, refl, ap, sym, subst, ◌∙◌, ℕ, suc, ◌+◌, ◌^◌, ◌<◌, ◌≤◌, ◌&&◌, ◌||◌, ◌==◌, not, cond, Bool, true, false, List, [], ◌∷◌, ◌++◌, length, map, get_or, arith}
use Rattle.std.specs.Prelude.{count_by, if◌then◌else◌}
use Rattle.std.specs.List.{enumerate_from, list_all, list_any}
use Rattle.std.proofs.lemmas.List.{get_or-map, length-append, length-map, map-append}
use Rattle.std.proofs.lemmas.List.Folds.{list_all-map, list_any-append}
use Rattle.std.proofs.lemmas.List.Sums.{sum_by-cons}
use Rattle.ssd_geo.specs.BlockCells.{BlockCells}
use Rattle.ssd_geo.specs.Limits.{Sizes, is_within, page_cells_of, word_bytes_of}
use Rattle.ssd_geo.specs.declared.base.BlockBase.{BlockBase}
use Rattle.ssd_geo.specs.declared.superblock.SbState.{SbState}
use Rattle.ssd_histories.specs.Blocks.{block_at, has_due_used, is_frontier_block, is_victim_block}
use Rattle.ssd_histories.specs.States.{is_bad}
use Rattle.ssd_formats.specs.Fields.{is_below}
use Rattle.ssd_formats.specs.ImageContents.{SavedBlock, are_pages, are_programmed_counts, are_saved_blocks, blocks_of_saved, has_before, is_factory_bad, is_page_word, is_programmed_count, is_saved_block, is_stripe_open, is_sum, may_be, pages_at, saved_block, slots_of_sizes}
use Rattle.ssd_formats.specs.ImageHead.{Head}
use Rattle.contents_start.proofs.SavedBlocks.{IsCount, has_one_more}
use Rattle.contents_end.proofs.Tests.{below_if, both_true, equal_if}
use Rattle.shared_lemmas.proofs.Positions.{all_from}
use Rattle.contents_start.proofs.BlankContents.{all_true}
use Rattle.ssd_geo.proofs.Sizes.{is_within_from}

-- what is asked of a superblock, whichever stand before it
pub record MayStand (head : Head) (channel : ℕ) (cells : List (List BlockCells)) (sb : ℕ) (block : BlockBase) : Type 0 where
  pub listed : (is_bad block.state || not (is_factory_bad head channel sb)) ≡ true
  pub erases : block.erases ≤ 2 ^ 31
  pub few : block.used < 2 ^ 32
  pub used : has_due_used (slots_of_sizes head.sizes) block.state block.used ≡ true
  pub counts :
      (die : ℕ) → die < length cells
      → IsCount head.sizes block.state sb block.used die (length (pages_at sb (get_or cells die [])))
  pub pages :
      (die : ℕ) → die < length cells → are_pages (page_cells_of head.sizes) (pages_at sb (get_or cells die [])) ≡ true

-- the numbers of programmed pages
counts_may_stand : (sizes : Sizes) (state : SbState) (sb used : ℕ) (counts before : List ℕ)
    → ((die : ℕ) → die < length counts → IsCount sizes state sb used (length before + die) (get_or counts die 0))
    → are_programmed_counts sizes state sb used before counts ≡ true
counts_may_stand sizes state sb used [] before each = refl
counts_may_stand sizes state sb used (n ∷ counts) before each =
    let none : length before + 0 ≡ length before = omega arith in
    let first : IsCount sizes state sb used (length before) n =
    subst (λ (k : ℕ). IsCount sizes state sb used k n) none (each 0 (omega arith)) in
    let here : (is_programmed_count sizes state sb used (length before) n && is_within 0 sizes.pages n) ≡ true =
    both_true (is_programmed_count sizes state sb used (length before) n) (is_within 0 sizes.pages n) first.programmed
    (is_within_from 0 sizes.pages n (omega arith) first.few) in
    ap (λ (b : Bool). b && are_programmed_counts sizes state sb used (before ++ n ∷ []) counts) here
    ∙ counts_may_stand sizes state sb used counts (before ++ n ∷ [])
    (λ die below.
    let there : length before + suc die ≡ length (before ++ n ∷ []) + die = omega (arith, length-append before (n ∷ [])) in
    subst (λ (k : ℕ). IsCount sizes state sb used k (get_or counts die 0)) there (each (suc die) (omega (arith, below))))

-- those that cells have
counts_of_cells : (head : Head) (channel : ℕ) (cells : List (List BlockCells)) (sb : ℕ) (block : BlockBase)
    → MayStand head channel cells sb block
    → are_programmed_counts head.sizes block.state sb block.used [] (map length (map (pages_at sb) cells)) ≡ true
counts_of_cells head channel cells sb block may =
    let pages = map (pages_at sb) cells in
    let counts : List ℕ = map length pages in
    let long : length counts ≡ length cells = length-map pages length ∙ length-map cells (pages_at sb) in
    counts_may_stand head.sizes block.state sb block.used counts []
    (λ die below.
    let in_cells : die < length cells = omega (arith, below, long) in
    let in_pages : die < length pages = omega (arith, in_cells, length-map cells (pages_at sb)) in
    let own : get_or counts die 0 ≡ length (pages_at sb (get_or cells die [])) =
    get_or-map length pages die [] 0 in_pages
    ∙ ap length (get_or-map (pages_at sb) cells die [] [] in_cells) in
    let number : die ≡ 0 + die = omega arith in
    subst (λ (k : ℕ). IsCount head.sizes block.state sb block.used k (get_or counts die 0)) number
    (subst (λ (n : ℕ). IsCount head.sizes block.state sb block.used die n) (sym own) (may.counts die in_cells)))

-- the sum stands where a stripe is open
sum_may_stand : (head : Head) (block : BlockBase) (sum : List ℕ)
    → (length sum == word_bytes_of head.sizes && is_page_word head sum) ≡ true
    → is_sum head block (if is_stripe_open head.sizes block then sum else []) ≡ true
sum_may_stand head block sum e = by_test (is_stripe_open head.sizes block)
  where
    by_test : (b : Bool)
        → (if b then (length (if b then sum else []) == word_bytes_of head.sizes && is_page_word head (if b then sum else []))
        else (length (if b then sum else []) == 0)) ≡ true
    by_test true = e
    by_test false = refl

pub not_false : (b : Bool) → b ≡ false → not b ≡ true
not_false b e = rw e refl

-- a superblock behind those before it
block_may_stand : (head : Head) (channel : ℕ) (sum : List ℕ) (cells : List (List BlockCells)) (before : List SavedBlock)
    (block : BlockBase) → length cells ≡ head.sizes.dies
    → (length sum == word_bytes_of head.sizes && is_page_word head sum) ≡ true
    → MayStand head channel cells (length before) block
    → (is_frontier_block block && has_before is_frontier_block before) ≡ false
    → (is_victim_block block && has_before is_victim_block before) ≡ false
    → is_saved_block head channel before (saved_block head.sizes sum cells (length before, block)) ≡ true
block_may_stand head channel sum cells before block dies word may frontier victim =
    let sizes : Sizes = head.sizes in
    let sb : ℕ = length before in
    let t1 : Bool = not (is_frontier_block block && has_before is_frontier_block before) in
    let t2 : Bool = not (is_victim_block block && has_before is_victim_block before) in
    let t3 : Bool = is_bad block.state || not (is_factory_bad head channel sb) in
    let state : may_be head channel before block.state ≡ true =
    both_true (t1 && t2) t3
    (both_true t1 t2 (not_false (is_frontier_block block && has_before is_frontier_block before) frontier)
    (not_false (is_victim_block block && has_before is_victim_block before) victim)) may.listed in
    all_true (may_be head channel before block.state) (is_within 0 (2 ^ 31) block.erases) (is_below (2 ^ 32) block.used)
    (has_due_used (slots_of_sizes sizes) block.state block.used) (length (map (pages_at sb) cells) == sizes.dies)
    (are_programmed_counts sizes block.state sb block.used [] (map length (map (pages_at sb) cells)))
    (list_all (are_pages (page_cells_of sizes)) (map (pages_at sb) cells))
    (is_sum head block (if is_stripe_open sizes block then sum else []))
    state (is_within_from 0 (2 ^ 31) block.erases (omega arith) may.erases) (below_if (2 ^ 32) block.used may.few) may.used
    (equal_if (length (map (pages_at sb) cells)) sizes.dies (length-map cells (pages_at sb) ∙ dies))
    (counts_of_cells head channel cells sb block may)
    (list_all-map (are_pages (page_cells_of sizes)) (pages_at sb) cells
    ∙ all_from (λ (blocks : List BlockCells). are_pages (page_cells_of sizes) (pages_at sb blocks)) cells [] may.pages)
    (sum_may_stand head block sum word)

-- a state that at most one superblock has: where one has it, none before does, and it counts for those behind
alone : (here earlier : Bool) (more : ℕ) → cond here 1 0 + more + cond earlier 1 0 ≤ 1 → (here && earlier) ≡ false
alone true true more few = absurd (omega (arith, few))
alone true false more few = refl
alone false earlier more few = refl

one_for_more : (here earlier : Bool) (more : ℕ) → cond here 1 0 + more + cond earlier 1 0 ≤ 1
    → more + cond (earlier || here) 1 0 ≤ 1
one_for_more true true more few = omega (arith, few)
one_for_more true false more few = omega (arith, few)
one_for_more false true more few = omega (arith, few)
one_for_more false false more few = omega (arith, few)

-- how many superblocks are in such a state, with those before
abbrev FewIn : (BlockBase → Bool) → List SavedBlock → List BlockBase → Type 0
FewIn test before blocks = count_by test blocks + cond (has_before test before) 1 0 ≤ 1

in_parts : (test : BlockBase → Bool) (before : List SavedBlock) (block : BlockBase) (blocks : List BlockBase)
    → FewIn test before (block ∷ blocks) → cond (test block) 1 0 + count_by test blocks + cond (has_before test before) 1 0 ≤ 1
in_parts test before block blocks few =
    omega (arith, few, sum_by-cons (λ (one : BlockBase). cond (test one) 1 0) block blocks)

few_more : (test : BlockBase → Bool) (before : List SavedBlock) (saved : SavedBlock) (blocks : List BlockBase)
    → FewIn test before (saved.block ∷ blocks) → FewIn test (before ++ saved ∷ []) blocks
few_more test before saved blocks few =
    subst (λ (b : Bool). count_by test blocks + cond b 1 0 ≤ 1) (sym (has_one_more test before saved))
    (one_for_more (test saved.block) (has_before test before) (count_by test blocks) (in_parts test before saved.block blocks few))

-- superblocks behind those before them
pub blocks_may_stand : (head : Head) (channel : ℕ) (sum : List ℕ) (cells : List (List BlockCells)) (blocks : List BlockBase)
    (from : ℕ) (before : List SavedBlock) → length before ≡ from → length cells ≡ head.sizes.dies
    → (length sum == word_bytes_of head.sizes && is_page_word head sum) ≡ true
    → ((k : ℕ) → k < length blocks → MayStand head channel cells (from + k) (block_at blocks k))
    → FewIn is_frontier_block before blocks → FewIn is_victim_block before blocks
    → are_saved_blocks head channel before (map (saved_block head.sizes sum cells) (enumerate_from from blocks)) ≡ true
blocks_may_stand head channel sum cells [] from before here dies word may frontier victim = refl
blocks_may_stand head channel sum cells (block ∷ blocks) from before here dies word may frontier victim =
    let next : SavedBlock = saved_block head.sizes sum cells (from, block) in
    let place : from + 0 ≡ length before = omega (arith, here) in
    let own : MayStand head channel cells (length before) block =
    subst (λ (sb : ℕ). MayStand head channel cells sb block) place (may 0 (omega arith)) in
    let first : is_saved_block head channel before next ≡ true =
    ap (λ (sb : ℕ). is_saved_block head channel before (saved_block head.sizes sum cells (sb, block))) (sym here)
    ∙ block_may_stand head channel sum cells before block dies word own
    (alone (is_frontier_block block) (has_before is_frontier_block before) (count_by is_frontier_block blocks)
    (in_parts is_frontier_block before block blocks frontier))
    (alone (is_victim_block block) (has_before is_victim_block before) (count_by is_victim_block blocks)
    (in_parts is_victim_block before block blocks victim)) in
    ap (λ (b : Bool). b && are_saved_blocks head channel (before ++ next ∷ []) (map (saved_block head.sizes sum cells) (enumerate_from (from + 1) blocks)))
    first
    ∙ blocks_may_stand head channel sum cells blocks (from + 1) (before ++ next ∷ [])
    (omega (arith, length-append before (next ∷ []), here)) dies word
    (λ k below.
    let there : from + suc k ≡ from + 1 + k = omega arith in
    subst (λ (sb : ℕ). MayStand head channel cells sb (block_at blocks k)) there (may (suc k) (omega (arith, below))))
    (few_more is_frontier_block before next blocks frontier) (few_more is_victim_block before next blocks victim)

-- the superblocks that were saved are back
pub blocks_back : (sizes : Sizes) (sum : List ℕ) (cells : List (List BlockCells)) (blocks : List BlockBase) (from : ℕ)
    → blocks_of_saved (map (saved_block sizes sum cells) (enumerate_from from blocks)) ≡ blocks
blocks_back sizes sum cells [] from = refl
blocks_back sizes sum cells (block ∷ blocks) from =
    ap (λ (more : List BlockBase). block ∷ more) (blocks_back sizes sum cells blocks (from + 1))
