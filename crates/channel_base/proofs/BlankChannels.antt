-- The channels of a blank image: their superblocks are free or bad with no slot used, and no stripe is open in them.
use Rattle.std.proofs.Common.{◌≡◌, refl, ap, sym, ◌∙◌, ℕ, zero, suc, ℤ, ◌+◌, ◌-◌, ◌%◌, ◌==◌, ◌&&◌, not, cond, Bool, true, false, if◌then◌else◌, List, [], ◌∷◌, ◌++◌, length, map, find, replicate, get_or, count_by, Option, None, arith}
use Rattle.std.specs.List.{list_all, range_with_len}
use Rattle.std.specs.Option.{option_map_or}
use Rattle.std.proofs.lemmas.Bool.Decides.{nat_tests}
use Rattle.std.proofs.lemmas.List.Folds.{sum_by-zero}
use Rattle.std.proofs.lemmas.List.FromFn.{length-range_with_len, map-range_with_len_more}
use Rattle.std.proofs.lemmas.Simd.{map-map}
use Rattle.ssd_geo.specs.BlockCells.{blank_cells, BlockCells}
use Rattle.ssd_histories.specs.Blocks.{has_due_used}
use Rattle.ssd_formats.specs.ImageContents.{SavedBlock, blank_channel, blank_saved, blocks_of_saved, cells_of_block, cells_of_saved, is_stripe_open, is_factory_bad, sum_of_saved}
use Rattle.ssd_geo.specs.Limits.{word_bytes_of}
use Rattle.ssd_formats.specs.ImageHead.{Head}
use Rattle.ssd_histories.specs.States.{is_frontier, is_victim}
use Rattle.ssd_geo.specs.StripeSum.{zero_word}
use Rattle.ssd_geo.specs.declared.base.BlockBase.{BlockBase}
use Rattle.ssd_geo.specs.declared.superblock.SbState.{SbState}
use Rattle.ssd_geo.specs.declared.superblock.SbState.TheVariants.{Free, Bad}
use Rattle.std.proofs.lemmas.Bool.{eqb-true}

-- the state of a superblock that is factory bad, or isn't
abbrev pub blank_state : Bool → SbState
blank_state is_bad = if is_bad then Bad else Free

pub no_frontier : (is_bad : Bool) → is_frontier (blank_state is_bad) ≡ false
no_frontier true = refl
no_frontier false = refl

pub no_victim : (is_bad : Bool) → is_victim (blank_state is_bad) ≡ false
no_victim true = refl
no_victim false = refl

pub none_used : (slots : ℕ) (is_bad : Bool) → has_due_used slots (blank_state is_bad) 0 ≡ true
none_used slots true = grind (arith, nat_tests)
none_used slots false = refl

-- a superblock of a blank channel
abbrev pub blank_block_of : Head → ℕ → ℕ → BlockBase
blank_block_of head channel sb =
    record { state = blank_state (is_factory_bad head channel sb); erases = 0; used = 0 }

-- the superblocks of a blank channel, as its base has them
pub blocks_are : (head : Head) (channel : ℕ) →
    blocks_of_saved (blank_channel head channel).blocks ≡ map (blank_block_of head channel) (range_with_len 0 head.sizes.superblocks)
blocks_are head channel =
    map-map (λ (saved : SavedBlock). saved.block) (blank_saved head channel) (range_with_len 0 head.sizes.superblocks)

-- one superblock more
pub one_more_block : (head : Head) (channel sb : ℕ) (before after : List BlockBase) (next : BlockBase) →
    after ≡ before ++ next ∷ [] → before ≡ map (blank_block_of head channel) (range_with_len 0 sb) →
    next ≡ blank_block_of head channel sb → after ≡ map (blank_block_of head channel) (range_with_len 0 (sb + 1))
one_more_block head channel sb before after next all so_far last =
    all ∙ ap (λ (blocks : List BlockBase). blocks ++ next ∷ []) so_far
    ∙ ap (λ (block : BlockBase). map (blank_block_of head channel) (range_with_len 0 sb) ++ block ∷ []) last
    ∙ sym (map-range_with_len_more (blank_block_of head channel) 0 sb sb (omega arith))

-- a test that each item passes
pub each_passes : {A : Type 0} (test : A → Bool) (f : ℕ → A) → ((x : ℕ) → test (f x) ≡ true) → (xs : List ℕ) →
    list_all test (map f xs) ≡ true
each_passes test f h [] = refl
each_passes test f h (x ∷ xs) = ap (λ (b : Bool). b && list_all test (map f xs)) (h x) ∙ each_passes test f h xs

-- and one that none passes
none_found : {A : Type 0} (test : A → Bool) (f : ℕ → A) → ((x : ℕ) → test (f x) ≡ false) → (xs : List ℕ) →
    find test (map f xs) ≡ None
none_found test f h [] = refl
none_found test f h (x ∷ xs) = rw (h x) (none_found test f h xs)

pub none_counted : {A : Type 0} (test : A → Bool) (f : ℕ → A) → ((x : ℕ) → test (f x) ≡ false) → (xs : List ℕ) →
    count_by test (map f xs) ≡ 0
none_counted test f h xs =
    eqb-true (count_by test (map f xs)) 0
    (sum_by-zero (λ x. cond (test x) 1 0) (map f xs)
    ∙ each_passes (λ x. cond (test x) 1 0 == 0) f (λ x. ap (λ (b : Bool). cond b 1 0 == 0) (h x)) xs)

-- no stripe of a blank channel is open
none_open : (head : Head) (channel sb : ℕ) → is_stripe_open head.sizes (blank_block_of head channel sb) ≡ false
none_open head channel sb =
    ap (λ (b : Bool). b && not (0 % (head.sizes.dies - 1) == 0)) (no_frontier (is_factory_bad head channel sb))

-- so its running sum is all 0
pub blank_sum : (head : Head) (channel : ℕ) →
    sum_of_saved head.sizes (blank_channel head channel) ≡ zero_word (word_bytes_of head.sizes)
blank_sum head channel =
    ap (λ (found : Option SavedBlock). option_map_or (λ (block : SavedBlock). block.sum) found (zero_word (word_bytes_of head.sizes)))
    (none_found (λ (block : SavedBlock). is_stripe_open head.sizes block.block) (blank_saved head channel) (none_open head channel)
    (range_with_len 0 head.sizes.superblocks))

-- the cells of a block that was never erased, of its pages
abbrev cells_of_pages : List (List ℤ) → BlockCells
cells_of_pages pages = record { erases = 0; pages = pages }

-- each item is the same
all_same : {A : Type 0} (f : ℕ → A) (a : A) → ((x : ℕ) → f x ≡ a) → (xs : List ℕ) → map f xs ≡ replicate (length xs) a
all_same f a h [] = refl
all_same f a h (x ∷ xs) = rw (h x, all_same f a h xs) refl

same_range : {A : Type 0} (f : ℕ → A) (a : A) → ((x : ℕ) → f x ≡ a) → (n : ℕ) → map f (range_with_len 0 n) ≡ replicate n a
same_range f a h n =
    all_same f a h (range_with_len 0 n) ∙ ap (λ (k : ℕ). replicate k a) (length-range_with_len 0 n)

-- no page of a die is programmed
no_page : (n die : ℕ) → let none : List (List (List ℤ)) = replicate n [] in get_or none die [] ≡ []
no_page zero die = refl
no_page (suc n) zero = refl
no_page (suc n) (suc die) = no_page n die

blank_cells_of : (head : Head) (channel die sb : ℕ) → cells_of_block die (blank_saved head channel sb) ≡ blank_cells
blank_cells_of head channel die sb =
    ap (λ (pages : List (List ℤ)). cells_of_pages pages) (no_page head.sizes.dies die)

-- so the cells of its dies are blank
pub cells_are : (head : Head) (channel : ℕ) →
    cells_of_saved head.sizes (blank_channel head channel)
    ≡ replicate head.sizes.dies (replicate head.sizes.superblocks blank_cells)
cells_are head channel =
    let blocks : List BlockCells = replicate head.sizes.superblocks blank_cells in
    let of_die : (die : ℕ) → map (cells_of_block die) (blank_channel head channel).blocks ≡ blocks = λ die.
    map-map (cells_of_block die) (blank_saved head channel) (range_with_len 0 head.sizes.superblocks)
    ∙ same_range (λ sb. cells_of_block die (blank_saved head channel sb)) blank_cells (blank_cells_of head channel die)
    head.sizes.superblocks in
    same_range (λ die. map (cells_of_block die) (blank_channel head channel).blocks) blocks of_die head.sizes.dies
