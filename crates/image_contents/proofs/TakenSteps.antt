-- One superblock more is taken over from an image.
use Rattle.std.proofs.Common.{◌≡◌, ℕ, suc, ◌+◌, ◌-◌, ◌<◌, ◌≤◌, ◌==◌, ◌&&◌, ◌||◌, not, Bool, true, false, List, [], ◌∷◌, ◌++◌, length, map, find, set, replicate, slice_get, get_or, Option, Some, None, refl, sym, ap, ◌∙◌, arith, append_assoc, append-nil}
use Rattle.std.specs.Prelude.{All, if◌then◌else◌}
use Rattle.std.specs.List.{list_all, list_any}
use Rattle.std.proofs.Common.{◌^◌}
use Rattle.std.specs.Option.{option_map_or, option_or, unwrap_or}
use Rattle.std.proofs.lemmas.List.{length-map, map-append}
use Rattle.std.proofs.lemmas.List.Elements.{All-cons, All-nil}
use Rattle.std.proofs.lemmas.List.Folds.{find-append}
use Rattle.std.proofs.lemmas.Option.{slice_get-get_or, slice_get_within}
use Rattle.ssd_geo.specs.BlockCells.{BlockCells, blank_cells}
use Rattle.ssd_geo.specs.Limits.{Sizes, is_within, page_cells_of, word_bytes_of}
use Rattle.ssd_formats.specs.Fields.{is_below}
use Rattle.ssd_geo.specs.StripeSum.{zero_word}
use Rattle.ssd_formats.specs.ImageContents.{SavedBlock, are_pages, are_programmed_counts, are_saved_blocks, is_sum, slots_of_sizes, blocks_of_saved, cells_of_block, has_before, is_factory_bad, is_saved_block, is_stripe_open, may_be, sum_of_saved}
use Rattle.ssd_formats.specs.ImageHead.{Head}
use Rattle.ssd_histories.specs.Blocks.{has_due_used, is_frontier_block, is_victim_block}
use Rattle.ssd_histories.specs.States.{is_bad, is_frontier, is_victim}
use Rattle.chan_dies.specs.DiesState.{blocks_in, no_die}
use Rattle.onfi_cmd.specs.DieState.{DieState}
use Rattle.ssd_geo.specs.declared.base.BlockBase.{BlockBase}
use Rattle.ssd_geo.specs.declared.superblock.SbState.{SbState}
use Rattle.image_contents.proofs.CountLists.{used_fits}
use Rattle.image_contents.specs.Taken.{AreTaken, TakesBlock}
use Rattle.std.proofs.lemmas.Bool.{and_parts, or_parts}

-- one more that may stand in an image, after those before
saved_longer : (head : Head) (channel : ℕ) (before saved : List SavedBlock) (more : SavedBlock) → are_saved_blocks head channel before saved ≡ true
    → is_saved_block head channel (before ++ saved) more ≡ true → are_saved_blocks head channel before (saved ++ more ∷ []) ≡ true
saved_longer head channel before [] more are is =
    let here : is_saved_block head channel before more ≡ true = ap (λ l. is_saved_block head channel l more) (sym (append-nil before)) ∙ is in
    rw here refl
saved_longer head channel before (block ∷ saved) more are is =
    let both = and_parts (is_saved_block head channel before block) (are_saved_blocks head channel (before ++ block ∷ []) saved) are in
    let again : is_saved_block head channel ((before ++ block ∷ []) ++ saved) more ≡ true =
    ap (λ l. is_saved_block head channel l more) (append_assoc before (block ∷ []) saved) ∙ is in
    rw (both.0, saved_longer head channel (before ++ block ∷ []) saved more both.1 again) refl

length_more : {A : Type 0} (xs : List A) (x : A) → length (xs ++ x ∷ []) ≡ length xs + 1
length_more [] x = refl
length_more (y ∷ xs) x = omega (arith, length_more xs x)

-- an item in the middle of a list is set
set_middle : {A : Type 0} (xs ys : List A) (y z : A) → set (xs ++ y ∷ ys) (length xs) z ≡ xs ++ z ∷ ys
set_middle [] ys y z = refl
set_middle (x ∷ xs) ys y z = ap (λ l. x ∷ l) (set_middle xs ys y z)

-- the blank blocks behind those that were taken over
one_blank_less : (n m : ℕ) → n ≡ suc m → replicate n blank_cells ≡ blank_cells ∷ replicate m blank_cells
one_blank_less n m more = rw more refl

-- the cells of a die with one more superblock's in them
cells_longer : (saved : List SavedBlock) (more : SavedBlock) (die count : ℕ) → length saved < count
    → set (map (cells_of_block die) saved ++ replicate (count - length saved) blank_cells) (length (blocks_of_saved saved)) (cells_of_block die more)
    ≡ map (cells_of_block die) (saved ++ more ∷ []) ++ replicate (count - length (saved ++ more ∷ [])) blank_cells
cells_longer saved more die count below =
    let front : List BlockCells = map (cells_of_block die) saved in
    let next : BlockCells = cells_of_block die more in
    let later : ℕ = count - length (saved ++ more ∷ []) in
    let at : length (blocks_of_saved saved) ≡ length front =
    length-map saved (λ (of : SavedBlock). of.block) ∙ sym (length-map saved (cells_of_block die)) in
    let left : count - length saved ≡ suc later = omega (arith, length_more saved more) in
    let both : map (cells_of_block die) (saved ++ more ∷ []) ≡ front ++ next ∷ [] = map-append (cells_of_block die) saved (more ∷ []) in
    ap (λ n. set (front ++ replicate (count - length saved) blank_cells) n next) at
    ∙ ap (λ l. set (front ++ l) (length front) next) (one_blank_less (count - length saved) later left)
    ∙ set_middle front (replicate later blank_cells) blank_cells next
    ∙ sym (append_assoc front (next ∷ []) (replicate later blank_cells))
    ∙ ap (λ l. l ++ replicate later blank_cells) (sym both)

-- a superblock with an open stripe is the frontier
open_is_frontier : (sizes : Sizes) (block : BlockBase) (b : Bool) → is_frontier block.state ≡ b → is_stripe_open sizes block ≡ true → b ≡ true
open_is_frontier sizes block true is opened = refl
open_is_frontier sizes block false is opened =
    let closed : is_stripe_open sizes block ≡ false = rw is refl in absurd (cc)

or_none : {A : Type 0} (o : Option A) → option_or o None ≡ o
or_none (Some x) = refl
or_none None = refl

-- the sum of the superblock that was found, or zeros
abbrev sum_found : Sizes → Option SavedBlock → List ℕ
sum_found sizes found = option_map_or (λ (block : SavedBlock). block.sum) found (zero_word (word_bytes_of sizes))

-- so where none is the frontier, none has one
none_open : (sizes : Sizes) (saved : List SavedBlock) → list_any is_frontier_block (blocks_of_saved saved) ≡ false
    → find (λ (of : SavedBlock). is_stripe_open sizes of.block) saved ≡ None
none_open sizes [] none = refl
none_open sizes (of ∷ saved) none =
    let parts = or_parts (is_frontier_block of.block) (list_any is_frontier_block (blocks_of_saved saved)) none in
    let closed : is_stripe_open sizes of.block ≡ false = rw parts.0 refl in
    rw closed (none_open sizes saved parts.1)

-- the sum with one more superblock
sum_longer : (sizes : Sizes) (saved : List SavedBlock) (more : SavedBlock) (b : Bool) → is_stripe_open sizes more.block ≡ b
    → (b ≡ true → list_any is_frontier_block (blocks_of_saved saved) ≡ false)
    → (if b then more.sum else sum_of_saved sizes (record { blocks = saved; rows = [] }))
    ≡ sum_of_saved sizes (record { blocks = saved ++ more ∷ []; rows = [] })
sum_longer sizes saved more true opened alone =
    let is_open : SavedBlock → Bool = λ (of : SavedBlock). is_stripe_open sizes of.block in
    let found : find is_open (saved ++ more ∷ []) ≡ Some more =
    find-append is_open saved (more ∷ []) ∙ rw (none_open sizes saved (alone refl), opened) refl in
    sym (ap (sum_found sizes) found)
sum_longer sizes saved more false opened alone =
    let is_open : SavedBlock → Bool = λ (of : SavedBlock). is_stripe_open sizes of.block in
    let found : find is_open (saved ++ more ∷ []) ≡ find is_open saved =
    find-append is_open saved (more ∷ []) ∙ rw opened (or_none (find is_open saved)) in
    sym (ap (sum_found sizes) found)

-- the next superblock may be in its state
may_be_next : (head : Head) (channel : ℕ) (before : List SavedBlock) (saved : SavedBlock) → is_saved_block head channel before saved ≡ true
    → may_be head channel before saved.block.state ≡ true
may_be_next head channel before saved e =
    let sizes : Sizes = head.sizes in
    let block : BlockBase = saved.block in
    let t1 : Bool = may_be head channel before block.state in
    let t2 : Bool = is_within 0 (2 ^ 31) block.erases in
    let t3 : Bool = is_below (2 ^ 32) block.used in
    let t4 : Bool = has_due_used (slots_of_sizes sizes) block.state block.used in
    let t5 : Bool = length saved.pages == sizes.dies in
    let t6 : Bool = are_programmed_counts sizes block.state (length before) block.used [] (map length saved.pages) in
    let t7 : Bool = list_all (are_pages (page_cells_of sizes)) saved.pages in
    let t8 : Bool = is_sum head block saved.sum in
    let e8 = and_parts (t1 && t2 && t3 && t4 && t5 && t6 && t7) t8 e in
    let e7 = and_parts (t1 && t2 && t3 && t4 && t5 && t6) t7 e8.0 in
    let e6 = and_parts (t1 && t2 && t3 && t4 && t5) t6 e7.0 in
    let e5 = and_parts (t1 && t2 && t3 && t4) t5 e6.0 in
    let e4 = and_parts (t1 && t2 && t3) t4 e5.0 in
    let e3 = and_parts (t1 && t2) t3 e4.0 in
    let e2 = and_parts t1 t2 e3.0 in e2.0

-- so where it has an open stripe, none before is the frontier
no_frontier_before : (frontier any second third : Bool) → frontier ≡ true → (not (frontier && any) && second && third) ≡ true → any ≡ false
no_frontier_before true true second third is may = absurd (cc)
no_frontier_before true false second third is may = refl
no_frontier_before false any second third is may = absurd (cc)

alone_open : (head : Head) (channel : ℕ) (before : List SavedBlock) (saved : SavedBlock) → is_saved_block head channel before saved ≡ true
    → is_stripe_open head.sizes saved.block ≡ true → list_any is_frontier_block (blocks_of_saved before) ≡ false
alone_open head channel before saved is opened =
    let state : SbState = saved.block.state in
    no_frontier_before (is_frontier state) (list_any is_frontier_block (blocks_of_saved before))
    (not (is_victim state && has_before is_victim_block before)) (is_bad state || not (is_factory_bad head channel (length before)))
    (open_is_frontier head.sizes saved.block (is_frontier state) refl opened) (may_be_next head channel before saved is)

-- one superblock more
pub taken_more : (head : Head) (channel : ℕ) (saved : List SavedBlock) (more : SavedBlock) (olds news : List DieState) (sum_before sum : List ℕ)
    → length saved < head.sizes.superblocks → AreTaken head channel saved olds sum_before
    → TakesBlock head channel (blocks_of_saved saved) more olds news sum_before sum → AreTaken head channel (saved ++ more ∷ []) news sum
taken_more head channel saved more olds news sum_before sum below are takes = record {
  are_saved = saved_longer head channel [] saved more are.are_saved (takes.is_saved saved refl);
  cells_are = λ number die at.
      let within : number < length olds =
      omega (arith, takes.cells_are.count_stays, slice_get_within news number die at) in
      let old : DieState = get_or olds number no_die in
      let held : slice_get olds number ≡ Some old = slice_get-get_or olds number no_die within in
      let told : blocks_in old ≡ map (cells_of_block number) saved ++ replicate (head.sizes.superblocks - length saved) blank_cells =
      ap (λ (o : Option (List BlockCells)). unwrap_or o []) (are.cells_are number old held) in
      takes.cells_are.each number old die held at
      ∙ ap (λ (l : List BlockCells). Some (set l (length (blocks_of_saved saved)) (cells_of_block number more))) told
      ∙ ap (λ (l : List BlockCells). Some l) (cells_longer saved more number head.sizes.superblocks below);
  sum_is =
      let block : BlockBase = more.block in
      takes.sum_is
      ∙ ap (λ (l : List ℕ). if is_stripe_open head.sizes block then more.sum else l) are.sum_is
      ∙ sum_longer head.sizes saved more (is_stripe_open head.sizes block) refl (alone_open head channel saved more (takes.is_saved saved refl));
}

-- a superblock that may stand in an image has no more slots used than it has
used_of : (head : Head) (channel : ℕ) (before : List SavedBlock) (saved : SavedBlock) → is_saved_block head channel before saved ≡ true
    → saved.block.used ≤ slots_of_sizes head.sizes
used_of head channel before saved e =
    let sizes : Sizes = head.sizes in
    let block : BlockBase = saved.block in
    let t1 : Bool = may_be head channel before block.state in
    let t2 : Bool = is_within 0 (2 ^ 31) block.erases in
    let t3 : Bool = is_below (2 ^ 32) block.used in
    let t4 : Bool = has_due_used (slots_of_sizes sizes) block.state block.used in
    let t5 : Bool = length saved.pages == sizes.dies in
    let t6 : Bool = are_programmed_counts sizes block.state (length before) block.used [] (map length saved.pages) in
    let t7 : Bool = list_all (are_pages (page_cells_of sizes)) saved.pages in
    let t8 : Bool = is_sum head block saved.sum in
    let e8 = and_parts (t1 && t2 && t3 && t4 && t5 && t6 && t7) t8 e in
    let e7 = and_parts (t1 && t2 && t3 && t4 && t5 && t6) t7 e8.0 in
    let e6 = and_parts (t1 && t2 && t3 && t4 && t5) t6 e7.0 in
    let e5 = and_parts (t1 && t2 && t3 && t4) t5 e6.0 in
    let e4 = and_parts (t1 && t2 && t3) t4 e5.0 in used_fits (slots_of_sizes sizes) block.used block.state e4.1

pub all_used : (head : Head) (channel : ℕ) (before saved : List SavedBlock) → are_saved_blocks head channel before saved ≡ true
    → All (λ block. block.used ≤ slots_of_sizes head.sizes) (blocks_of_saved saved)
all_used head channel before [] are = All-nil (λ (block : BlockBase). block.used ≤ slots_of_sizes head.sizes)
all_used head channel before (saved ∷ more) are =
    let both = and_parts (is_saved_block head channel before saved) (are_saved_blocks head channel (before ++ saved ∷ []) more) are in
    All-cons (λ (block : BlockBase). block.used ≤ slots_of_sizes head.sizes) saved.block (blocks_of_saved more) (used_of head channel before saved both.0)
    (all_used head channel (before ++ saved ∷ []) more both.1)
