-- What is known of each superblock of contents that have a spelling, and so of the superblocks of a channel that has them.
use Rattle.std.proofs.Common.{◌≡◌, refl, ap, sym, subst, ◌∙◌, ℕ, zero, suc, ◌+◌, ◌^◌, ◌<◌, ◌≤◌, ◌&&◌, ◌||◌, ◌==◌, not, cond, Bool, true, false, List, [], ◌∷◌, ◌++◌, length, map, take, get_or, arith, append-nil, append_assoc}
use Rattle.std.specs.Prelude.{All, count_by}
use Rattle.std.specs.List.{list_all, list_any}
use Rattle.std.proofs.lemmas.Bool.Decides.{nat_tests}
use Rattle.std.proofs.lemmas.List.{length-append, map-append}
use Rattle.std.proofs.lemmas.List.Elements.{All-map}
use Rattle.std.proofs.lemmas.List.Folds.{list_all-map, list_any-append}
use Rattle.std.proofs.lemmas.List.Sums.{sum_by-cons}
use Rattle.ssd_geo.specs.Limits.{Sizes, is_within, page_cells_of}
use Rattle.ssd_geo.specs.declared.base.BlockBase.{BlockBase}
use Rattle.ssd_geo.specs.declared.superblock.SbState.{SbState}
use Rattle.ssd_geo.specs.declared.superblock.SbState.TheVariants.{Free, Frontier, Sealed, Bad, Victim}
use Rattle.ssd_histories.specs.Blocks.{block_at, has_due_used, is_due_block, is_frontier_block, is_victim_block}
use Rattle.ssd_histories.specs.States.{is_bad, is_frontier, is_victim}
use Rattle.ssd_formats.specs.Fields.{is_below}
use Rattle.ssd_formats.specs.ImageContents.{SavedBlock, are_pages, are_programmed_counts, are_saved_blocks, blocks_of_saved, has_before, is_factory_bad, is_programmed_count, is_saved_block, is_sum, may_be, slots_of_sizes}
use Rattle.ssd_formats.specs.ImageHead.{Head}
use Rattle.ssd_formats.proofs.HeadLaws.{within_is}
use Rattle.std.proofs.lemmas.Bool.{and_parts, not-true, eqb-true}
use Rattle.shared_lemmas.proofs.Tests.{or_false}
use Rattle.ssd_histories.proofs.UsedSlots.{due_used}

-- what is known of a superblock that may stand behind others
pub record IsPart (head : Head) (channel : ℕ) (before : List SavedBlock) (saved : SavedBlock) : Type 0 where
  pub may : may_be head channel before saved.block.state ≡ true
  pub erases : saved.block.erases ≤ 2 ^ 31
  pub used : has_due_used (slots_of_sizes head.sizes) saved.block.state saved.block.used ≡ true
  pub dies : length saved.pages ≡ head.sizes.dies
  pub counts :
      are_programmed_counts head.sizes saved.block.state (length before) saved.block.used [] (map length saved.pages) ≡ true
  pub pages : list_all (are_pages (page_cells_of head.sizes)) saved.pages ≡ true
  pub sum : is_sum head saved.block saved.sum ≡ true

pub part_of : (head : Head) (channel : ℕ) (before : List SavedBlock) (saved : SavedBlock)
    → is_saved_block head channel before saved ≡ true → IsPart head channel before saved
part_of head channel before saved e =
    let sizes : Sizes = head.sizes in
    let block : BlockBase = saved.block in
    let t1 : Bool = may_be head channel before block.state in
    let t2 : Bool = is_within 0 (2 ^ 31) block.erases in
    let t3 : Bool = is_below (2 ^ 32) block.used in
    let t4 : Bool = has_due_used (slots_of_sizes sizes) block.state block.used in
    let t5 : Bool = length saved.pages == sizes.dies in
    let t6 : Bool = are_programmed_counts sizes block.state (length before) block.used [] (map length saved.pages) in
    let t7 : Bool = list_all (are_pages (page_cells_of sizes)) saved.pages in
    let e8 = and_parts (t1 && t2 && t3 && t4 && t5 && t6 && t7) (is_sum head block saved.sum) e in
    let e7 = and_parts (t1 && t2 && t3 && t4 && t5 && t6) t7 e8.0 in
    let e6 = and_parts (t1 && t2 && t3 && t4 && t5) t6 e7.0 in
    let e5 = and_parts (t1 && t2 && t3 && t4) t5 e6.0 in
    let e4 = and_parts (t1 && t2 && t3) t4 e5.0 in
    let e3 = and_parts (t1 && t2) t3 e4.0 in
    let e2 = and_parts t1 t2 e3.0 in
    record {
      may = e2.0;
      erases = within_is 0 (2 ^ 31) block.erases e2.1;
      used = e4.1;
      dies = eqb-true (length saved.pages) sizes.dies e5.1;
      counts = e6.1;
      pages = e7.1;
      sum = e8.1;
    }

-- each superblock of a list may stand behind those before it
pub part_at : (head : Head) (channel : ℕ) (blocks before : List SavedBlock) → are_saved_blocks head channel before blocks ≡ true
    → (k : ℕ) (d : SavedBlock) → k < length blocks → IsPart head channel (before ++ take k blocks) (get_or blocks k d)
part_at head channel [] before e k d below = absurd (omega (arith, below))
part_at head channel (saved ∷ blocks) before e zero d below =
    let both = and_parts (is_saved_block head channel before saved) (are_saved_blocks head channel (before ++ saved ∷ []) blocks) e in
    subst (λ (earlier : List SavedBlock). IsPart head channel earlier saved) (sym (append-nil before))
    (part_of head channel before saved both.0)
part_at head channel (saved ∷ blocks) before e (suc k) d below =
    let both = and_parts (is_saved_block head channel before saved) (are_saved_blocks head channel (before ++ saved ∷ []) blocks) e in
    subst (λ (earlier : List SavedBlock). IsPart head channel earlier (get_or blocks k d))
    (append_assoc before (saved ∷ []) (take k blocks))
    (part_at head channel blocks (before ++ saved ∷ []) both.1 k d (omega (arith, below)))

-- a test that each superblock passes which may stand behind others
pub all_pass : (head : Head) (channel : ℕ) (test : SavedBlock → Bool)
    → ((before : List SavedBlock) (saved : SavedBlock) → IsPart head channel before saved → test saved ≡ true)
    → (blocks before : List SavedBlock) → are_saved_blocks head channel before blocks ≡ true → list_all test blocks ≡ true
all_pass head channel test passes [] before e = refl
all_pass head channel test passes (saved ∷ blocks) before e =
    let both = and_parts (is_saved_block head channel before saved) (are_saved_blocks head channel (before ++ saved ∷ []) blocks) e in
    ap (λ (b : Bool). b && list_all test blocks) (passes before saved (part_of head channel before saved both.0))
    ∙ all_pass head channel test passes blocks (before ++ saved ∷ []) both.1

-- a state that at most one superblock has
one_more_at_most : (here earlier : Bool) (more : ℕ) → (here && earlier) ≡ false → more + cond (earlier || here) 1 0 ≤ 1
    → cond here 1 0 + more + cond earlier 1 0 ≤ 1
one_more_at_most true true more none few = absurd (cc)
one_more_at_most true false more none few = omega (arith, few)
one_more_at_most false true more none few = omega (arith, few)
one_more_at_most false false more none few = omega (arith, few)

pub has_one_more : (test : BlockBase → Bool) (before : List SavedBlock) (saved : SavedBlock)
    → has_before test (before ++ saved ∷ []) ≡ (has_before test before || test saved.block)
has_one_more test before saved =
    ap (λ (blocks : List BlockBase). list_any test blocks) (map-append (λ (one : SavedBlock). one.block) before (saved ∷ []))
    ∙ list_any-append test (blocks_of_saved before) (saved.block ∷ [])
    ∙ ap (λ (b : Bool). has_before test before || b) (or_false (test saved.block))

at_most_one : (head : Head) (channel : ℕ) (test : BlockBase → Bool)
    → ((before : List SavedBlock) (saved : SavedBlock) → IsPart head channel before saved
    → (test saved.block && has_before test before) ≡ false)
    → (blocks before : List SavedBlock) → are_saved_blocks head channel before blocks ≡ true
    → count_by test (blocks_of_saved blocks) + cond (has_before test before) 1 0 ≤ 1
at_most_one head channel test alone [] before e = one_if (has_before test before)
  where
    one_if : (b : Bool) → 0 + cond b 1 0 ≤ 1
    one_if true = omega arith
    one_if false = omega arith
at_most_one head channel test alone (saved ∷ blocks) before e =
    let both = and_parts (is_saved_block head channel before saved) (are_saved_blocks head channel (before ++ saved ∷ []) blocks) e in
    let more : ℕ = count_by test (blocks_of_saved blocks) in
    let rest : more + cond (has_before test (before ++ saved ∷ [])) 1 0 ≤ 1 =
    at_most_one head channel test alone blocks (before ++ saved ∷ []) both.1 in
    let all : cond (test saved.block) 1 0 + more + cond (has_before test before) 1 0 ≤ 1 =
    one_more_at_most (test saved.block) (has_before test before) more
    (alone before saved (part_of head channel before saved both.0))
    (subst (λ (b : Bool). more + cond b 1 0 ≤ 1) (has_one_more test before saved) rest) in
    omega (arith, all, sum_by-cons (λ (block : BlockBase). cond (test block) 1 0) saved.block (blocks_of_saved blocks))

frontier_alone : (head : Head) (channel : ℕ) (before : List SavedBlock) (saved : SavedBlock) → IsPart head channel before saved
    → (is_frontier_block saved.block && has_before is_frontier_block before) ≡ false
frontier_alone head channel before saved part =
    let state : SbState = saved.block.state in
    let t1 : Bool = not (is_frontier state && has_before is_frontier_block before) in
    let t2 : Bool = not (is_victim state && has_before is_victim_block before) in
    let t3 : Bool = is_bad state || not (is_factory_bad head channel (length before)) in
    not-true (is_frontier state && has_before is_frontier_block before) (and_parts t1 t2 (and_parts (t1 && t2) t3 part.may).0).0

victim_alone : (head : Head) (channel : ℕ) (before : List SavedBlock) (saved : SavedBlock) → IsPart head channel before saved
    → (is_victim_block saved.block && has_before is_victim_block before) ≡ false
victim_alone head channel before saved part =
    let state : SbState = saved.block.state in
    let t1 : Bool = not (is_frontier state && has_before is_frontier_block before) in
    let t2 : Bool = not (is_victim state && has_before is_victim_block before) in
    let t3 : Bool = is_bad state || not (is_factory_bad head channel (length before)) in
    not-true (is_victim state && has_before is_victim_block before) (and_parts t1 t2 (and_parts (t1 && t2) t3 part.may).0).1

pub one_frontier : (head : Head) (channel : ℕ) (blocks : List SavedBlock) → are_saved_blocks head channel [] blocks ≡ true
    → count_by is_frontier_block (blocks_of_saved blocks) ≤ 1
one_frontier head channel blocks e =
    omega (arith, at_most_one head channel is_frontier_block (frontier_alone head channel) blocks [] e)

pub one_victim : (head : Head) (channel : ℕ) (blocks : List SavedBlock) → are_saved_blocks head channel [] blocks ≡ true
    → count_by is_victim_block (blocks_of_saved blocks) ≤ 1
one_victim head channel blocks e =
    omega (arith, at_most_one head channel is_victim_block (victim_alone head channel) blocks [] e)

-- each superblock has as many slots used as its state asks, and few erases
pub all_due : (head : Head) (channel : ℕ) (blocks : List SavedBlock) → are_saved_blocks head channel [] blocks ≡ true
    → list_all (is_due_block (slots_of_sizes head.sizes)) (blocks_of_saved blocks) ≡ true
all_due head channel blocks e =
    let due : BlockBase → Bool = is_due_block (slots_of_sizes head.sizes) in
    list_all-map due (λ (saved : SavedBlock). saved.block) blocks
    ∙ all_pass head channel (λ saved. due saved.block) (λ before saved part. part.used) blocks [] e

pub all_few_erases : (head : Head) (channel : ℕ) (blocks : List SavedBlock) → are_saved_blocks head channel [] blocks ≡ true
    → All (λ (block : BlockBase). block.erases ≤ 2 ^ 31) (blocks_of_saved blocks)
all_few_erases head channel blocks e =
    All-map (λ (block : BlockBase). block.erases ≤ 2 ^ 31) (λ (saved : SavedBlock). saved.block) blocks
    (λ k d below. (part_at head channel blocks [] e k d below).erases)

pub used_fits : (slots : ℕ) (blocks : List BlockBase) → list_all (is_due_block slots) blocks ≡ true → (sb : ℕ)
    → (block_at blocks sb).used ≤ slots
used_fits slots [] e sb = omega arith
used_fits slots (block ∷ blocks) e zero =
    due_used slots block.state block.used (and_parts (is_due_block slots block) (list_all (is_due_block slots) blocks) e).0
used_fits slots (block ∷ blocks) e (suc sb) =
    used_fits slots blocks (and_parts (is_due_block slots block) (list_all (is_due_block slots) blocks) e).1 sb

-- the numbers of programmed pages of a superblock, die by die
pub record IsCount (sizes : Sizes) (state : SbState) (sb used die n : ℕ) : Type 0 where
  pub programmed : is_programmed_count sizes state sb used die n ≡ true
  pub few : n ≤ sizes.pages

pub count_at : (sizes : Sizes) (state : SbState) (sb used : ℕ) (counts before : List ℕ)
    → are_programmed_counts sizes state sb used before counts ≡ true → (die : ℕ) → die < length counts
    → IsCount sizes state sb used (length before + die) (get_or counts die 0)
count_at sizes state sb used [] before e die below = absurd (omega (arith, below))
count_at sizes state sb used (n ∷ counts) before e zero below =
    let programmed : Bool = is_programmed_count sizes state sb used (length before) n in
    let fits : Bool = is_within 0 sizes.pages n in
    let both = and_parts (programmed && fits) (are_programmed_counts sizes state sb used (before ++ n ∷ []) counts) e in
    let here = and_parts programmed fits both.0 in
    let there : length before ≡ length before + 0 = omega arith in
    subst (λ (k : ℕ). IsCount sizes state sb used k n) there
    (record { programmed = here.0; few = within_is 0 sizes.pages n here.1 })
count_at sizes state sb used (n ∷ counts) before e (suc die) below =
    let programmed : Bool = is_programmed_count sizes state sb used (length before) n in
    let fits : Bool = is_within 0 sizes.pages n in
    let both = and_parts (programmed && fits) (are_programmed_counts sizes state sb used (before ++ n ∷ []) counts) e in
    let there : length (before ++ n ∷ []) + die ≡ length before + suc die = omega (arith, length-append before (n ∷ [])) in
    subst (λ (k : ℕ). IsCount sizes state sb used k (get_or counts die 0)) there
    (count_at sizes state sb used counts (before ++ n ∷ []) both.1 die (omega (arith, below)))
