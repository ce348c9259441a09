-- The running sum of a channel at its start is the base's.
use Rattle.std.proofs.Common.{◌≡◌, ℕ, zero, suc, ◌-◌, ◌/◌, ◌%◌, ◌<◌, ◌==◌, not, ◌&&◌, ◌||◌, Bool, true, false, List, [], ◌∷◌}
use Rattle.std.proofs.Common.{length, get_or, refl, ap, sym, ◌∙◌, subst, Option, Some, None, arith}
use Rattle.std.specs.List.{list_any}
use Rattle.std.proofs.lemmas.Bool.Decides.{nat_tests}
use Rattle.ssd_histories.specs.Blocks as Blocks
use Rattle.ssd_geo.specs.Coding.{coding_of, word_bytes_in}
use Rattle.ssd_histories.specs.PastBlocks.{block_before, blocks_of, state_of}
use Rattle.ssd_histories.specs.PastPages.{running_sum, sum_in_image, sum_of_open}
use Rattle.ssd_histories.specs.Standing.{IsStart}
use Rattle.ssd_histories.specs.Start.{Start}
use Rattle.ssd_histories.specs.States.{is_frontier}
use Rattle.ssd_geo.specs.StripeSum.{zero_word}
use Rattle.ssd_geo.specs.declared.base.BlockBase.{BlockBase}
use Rattle.ssd_geo.specs.declared.base.ChannelBase.{ChannelBase}
use Rattle.ssd_geo.specs.declared.superblock.SbState.{SbState}
use Rattle.ssd_geo.specs.declared.tag.Tag.{Tag}
use Rattle.ssd_histories.proofs.OneOfEach.{found_block}
use Rattle.chan_fits.proofs.Frontiers.{none_is_frontier, one_at_start, state_at_start}

-- whether a superblock of the base has an open stripe
abbrev is_open_block : ChannelBase → BlockBase → Bool
is_open_block base block = is_frontier block.state && not (block.used % (base.shape.dies - 1) == 0)

-- none passes where none at a place does
none_pass : (p : BlockBase → Bool) (xs : List BlockBase) (d : BlockBase) → ((k : ℕ) → k < length xs → p (get_or xs k d) ≡ false)
    → list_any p xs ≡ false
none_pass p [] d fail = refl
none_pass p (x ∷ xs) d fail = first (p x) (list_any p xs) (fail zero (omega arith))
    (none_pass p xs d (λ k lt. fail (suc k) (omega arith)))
  where
    first : (a b : Bool) → a ≡ false → b ≡ false → (a || b) ≡ false
    first true b e f = e
    first false b e f = f

-- without an open stripe the sum is zeros
zeros_of_none : (start : Start) → IsStart start
    → ((k : ℕ) → k < start.base.shape.superblocks → is_open_block start.base (block_before start.base k) ≡ false)
    → start.base.sum ≡ zero_word (word_bytes_in start.base.shape)
zeros_of_none start is_start none =
    is_start.sum_of_none
    (ap {B = Bool} (λ (b : Bool). not b)
    (none_pass (is_open_block start.base) start.base.blocks Blocks.blank_block
    (λ k lt. none k (omega (arith, is_start.blocks_count)))))

not_frontier_closed : (frontier whole : Bool) → frontier ≡ false → (frontier && not whole) ≡ false
not_frontier_closed true whole e = absurd (grind arith)
not_frontier_closed false whole e = refl

whole_closed : (frontier whole : Bool) → (frontier ≡ true → whole ≡ true) → (frontier && not whole) ≡ false
whole_closed true true e = refl
whole_closed true false e = absurd (grind (arith, e refl))
whole_closed false whole e = refl

-- the sum of a superblock's open stripe at the start, by whether its stripes are whole
abbrev first_sum : Start → ℕ → Bool → List ℕ
first_sum start sb whole = elim whole [
  | true ↦ zero_word (word_bytes_in start.base.shape)
  | false ↦ sum_in_image start.base sb ((block_before start.base sb).used / (start.base.shape.dies - 1))
]

-- at the start the running sum is the base's
pub sum_at_start : (start : Start) (contents : List (Tag × List ℕ)) → IsStart start
    → start.base.sum ≡ running_sum (coding_of start.base) start contents []
sum_at_start start contents is_start =
    by_frontier (Blocks.frontier_of (blocks_of start.base []))
    (λ e k lt. none_is_frontier start.base [] k e lt) (λ sb e. found_block start.base [] Blocks.is_frontier_block sb e)
  where
    in_base : (k : ℕ) → k < start.base.shape.superblocks
        → is_frontier (block_before start.base k).state ≡ is_frontier (state_of start.base [] k)
    in_base k lt = sym (ap {B = Bool} (λ (state : SbState). is_frontier state) (state_at_start start k is_start lt))

    open_in_image : (frontier : Bool) (used w : ℕ) → frontier ≡ true → (used % w == 0) ≡ false
        → (frontier && used / w == used / w && not (used % w == 0)) ≡ true
    open_in_image frontier used w e f = λ i. e i && itself (used / w) i && not (f i)
      where
        itself : (n : ℕ) → (n == n) ≡ true
        itself n = grind (arith, nat_tests)

    by_used : (sb : ℕ) (whole : Bool) → sb < start.base.shape.superblocks → is_frontier (state_of start.base [] sb) ≡ true
        → ((block_before start.base sb).used % (start.base.shape.dies - 1) == 0) ≡ whole
        → start.base.sum ≡ sum_of_open (coding_of start.base) start contents [] sb
    by_used sb true lt here e =
        zeros_of_none start is_start (λ k lt_k.
        whole_closed (is_frontier (block_before start.base k).state)
        ((block_before start.base k).used % (start.base.shape.dies - 1) == 0)
        (λ f.
        let same : k ≡ sb = one_at_start start is_start k sb lt_k lt (sym (in_base k lt_k) ∙ f) here in
        subst (λ (n : ℕ). ((block_before start.base n).used % (start.base.shape.dies - 1) == 0) ≡ true) (sym same) e))
        ∙ sym (ap {B = List ℕ} (first_sum start sb) e)
    by_used sb false lt here e =
        sym (
        ap {B = List ℕ} (first_sum start sb) e
        ∙ ap {B = List ℕ} (λ (b : Bool). elim b [ true ↦ start.base.sum | false ↦ zero_word (word_bytes_in start.base.shape) ])
        (open_in_image (is_frontier (block_before start.base sb).state) (block_before start.base sb).used
        (start.base.shape.dies - 1) (in_base sb lt ∙ here) e)
        )

    by_frontier : (o : Option ℕ) → (o ≡ None → (k : ℕ) → k < start.base.shape.superblocks
        → is_frontier (state_of start.base [] k) ≡ false)
        → ((sb : ℕ) → o ≡ Some sb → (sb < start.base.shape.superblocks) × (is_frontier (state_of start.base [] sb) ≡ true))
        → start.base.sum ≡ (elim o as (λ _. List ℕ) [
          | Some sb ↦ sum_of_open
              (coding_of start.base) start contents [] sb
          | None ↦ zero_word (word_bytes_in start.base.shape)
        ])
    by_frontier None none found =
        zeros_of_none start is_start (λ k lt.
        not_frontier_closed (is_frontier (block_before start.base k).state)
        ((block_before start.base k).used % (start.base.shape.dies - 1) == 0)
        (in_base k lt ∙ none refl k lt))
    by_frontier (Some sb) none found =
        let there : (sb < start.base.shape.superblocks) × (is_frontier (state_of start.base [] sb) ≡ true) = found sb refl in
        by_used sb ((block_before start.base sb).used % (start.base.shape.dies - 1) == 0) there.0 there.1 refl
