-- The running sum of a channel is that of a stripe, or all 0; and it is all 0 where no stripe is open at the channel's end.
use Rattle.std.proofs.Common.{◌≡◌, refl, ap, sym, ◌∙◌, ℕ, ◌-◌, ◌%◌, ◌==◌, ◌&&◌, not, Bool, true, false, List, length, get_or, Option, Some, None, ◌/◌, ◌<◌, arith}
use Rattle.std.specs.List.{list_any}
use Rattle.std.proofs.lemmas.List.Folds.{list_any_at}
use Rattle.std.proofs.lemmas.List.Quantifiers.{position-Some}
use Rattle.ssd_geo.specs.Coding.{coding_of, word_bytes_in}
use Rattle.ssd_geo.specs.StripeSum.{zero_word}
use Rattle.ssd_geo.specs.declared.base.BlockBase.{BlockBase}
use Rattle.ssd_geo.specs.declared.entry.Entry.{Entry}
use Rattle.ssd_geo.specs.declared.shape.Shape.{Shape}
use Rattle.ssd_geo.specs.declared.tag.Tag.{Tag}
use Rattle.ssd_histories.specs.Blocks.{blank_block, block_at, frontier_of, is_frontier_block}
use Rattle.ssd_histories.specs.PastBlocks.{blocks_of, used_of}
use Rattle.ssd_histories.specs.PastPages.{running_sum, sum_of, sum_of_open}
use Rattle.ssd_histories.specs.Start.{Start}
use Rattle.ssd_histories.specs.States.{is_frontier}
use Rattle.ssd_histories.proofs.UsedSlots.{block_is}
use Rattle.chan_fits.proofs.ProgramFits.{blocks_number}

-- whether a superblock of a drive of these sizes has an open stripe
abbrev pub has_open : Shape → BlockBase → Bool
has_open shape block = is_frontier block.state && not (block.used % (shape.dies - 1) == 0)

-- a frontier without an open stripe has used whole stripes
none_left : (frontier whole : Bool) → frontier ≡ true → (frontier && not whole) ≡ false → whole ≡ true
none_left frontier true is none = refl
none_left true false is none = absurd (cc)
none_left false false is none = absurd (cc)

pub not_open : (some : Bool) → not some ≡ true → some ≡ false
not_open true e = absurd (cc)
not_open false e = refl

-- none of a list passes a test where not any does
none_at : (test : BlockBase → Bool) (blocks : List BlockBase) (sb : ℕ) → sb < length blocks → list_any test blocks ≡ false
    → test (get_or blocks sb blank_block) ≡ false
none_at test blocks sb below none = by_test (test (get_or blocks sb blank_block)) refl
  where
    by_test : (b : Bool) → test (get_or blocks sb blank_block) ≡ b → b ≡ false
    by_test true e = absurd (let some : list_any test blocks ≡ true = list_any_at test blocks sb blank_block below e in
        let both : true ≡ false = sym some ∙ none in (cc))
    by_test false e = refl

pub no_sum_at_end : (start : Start) (contents : List (Tag × List ℕ)) (past : List Entry)
    → not (list_any (has_open start.base.shape) (blocks_of start.base past)) ≡ true
    → running_sum (coding_of start.base) start contents past ≡ zero_word (word_bytes_in start.base.shape)
no_sum_at_end start contents past none = by_frontier (frontier_of (blocks_of start.base past)) refl
  where
    by_used : (sb : ℕ) (whole : Bool) → whole ≡ true
        → elim whole [
          | true ↦ zero_word (word_bytes_in start.base.shape)
          | false ↦ sum_of (coding_of start.base) start contents past sb (used_of start.base past sb / (start.base.shape.dies - 1))
        ] ≡ zero_word (word_bytes_in start.base.shape)
    by_used sb true e = refl
    by_used sb false e = absurd (cc)

    by_frontier : (at : Option ℕ) → frontier_of (blocks_of start.base past) ≡ at
        → elim at [
          | Some sb ↦ sum_of_open (coding_of start.base) start contents past sb
          | None ↦ zero_word (word_bytes_in start.base.shape)
        ] ≡ zero_word (word_bytes_in start.base.shape)
    by_frontier None e = refl
    by_frontier (Some sb) e =
        let found = position-Some is_frontier_block (blocks_of start.base past) sb blank_block e in
        let closed : has_open start.base.shape (block_at (blocks_of start.base past) sb) ≡ false =
        none_at (has_open start.base.shape) (blocks_of start.base past) sb found.0
        (not_open (list_any (has_open start.base.shape) (blocks_of start.base past)) none) in
        let whole : ((block_at (blocks_of start.base past) sb).used % (start.base.shape.dies - 1) == 0) ≡ true =
        none_left (is_frontier_block (block_at (blocks_of start.base past) sb))
        ((block_at (blocks_of start.base past) sb).used % (start.base.shape.dies - 1) == 0) found.1 closed in
        let below : sb < start.base.shape.superblocks = omega (arith, found.0, blocks_number start past) in
        let used : (used_of start.base past sb % (start.base.shape.dies - 1) == 0) ≡ true =
        ap (λ (block : BlockBase). block.used % (start.base.shape.dies - 1) == 0) (sym (block_is start.base past sb below)) ∙ whole in
        by_used sb (used_of start.base past sb % (start.base.shape.dies - 1) == 0) used

-- what holds of the sum of each stripe, and of no sum, holds of the running one
pub running_has : (P : List ℕ → Type 0) (start : Start) (contents : List (Tag × List ℕ)) (past : List Entry)
    → P (zero_word (word_bytes_in start.base.shape))
    → ((sb stripe : ℕ) → P (sum_of (coding_of start.base) start contents past sb stripe))
    → P (running_sum (coding_of start.base) start contents past)
running_has P start contents past none each = by_frontier (frontier_of (blocks_of start.base past))
  where
    by_used : (sb : ℕ) (whole : Bool)
        → P (elim whole [
          | true ↦ zero_word (word_bytes_in start.base.shape)
          | false ↦ sum_of (coding_of start.base) start contents past sb (used_of start.base past sb / (start.base.shape.dies - 1))
        ])
    by_used sb true = none
    by_used sb false = each sb (used_of start.base past sb / (start.base.shape.dies - 1))

    by_frontier : (at : Option ℕ)
        → P (elim at [
          | Some sb ↦ sum_of_open (coding_of start.base) start contents past sb
          | None ↦ zero_word (word_bytes_in start.base.shape)
        ])
    by_frontier None = none
    by_frontier (Some sb) = by_used sb (used_of start.base past sb % (start.base.shape.dies - 1) == 0)
