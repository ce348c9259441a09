-- What does the table of a channel's superblocks hold, and what is kept beside it? The frontier, the victim and the
-- number of free superblocks are kept, so that no scan is needed for them.
use Rattle.std.specs.Prelude.{ℕ, ◌≡◌, nat_lt, cond, ◌&&◌, Bool, true, false, List, Option, Some, None}
use Rattle.ssd_histories.specs.Blocks.{AreSound, block_at, free_blocks_in, frontier_of, is_free_block, victim_in}
use Rattle.ssd_geo.specs.declared.base.BlockBase.{BlockBase}

-- the superblocks of a channel, and how many data slots each has
pub record Superblocks : Type 0 where
  pub blocks : List BlockBase
  pub slots : ℕ

-- the superblocks are as they may stand, and what is kept beside them is theirs
pub record AreKept (slots : ℕ) (blocks : List BlockBase) (frontier victim : Option ℕ) (free : ℕ) : Type 0 where
  pub sound : AreSound slots blocks
  pub frontier_is : frontier ≡ frontier_of blocks
  pub victim_is : victim ≡ victim_in blocks
  pub free_is : free ≡ free_blocks_in blocks

-- whether an erase count is less than that of the best superblock so far, if there is one
abbrev pub beats : List BlockBase → ℕ → Option ℕ → Bool
beats blocks erases None = true
beats blocks erases (Some sb) = nat_lt erases (block_at blocks sb).erases

-- the best superblock so far, or this one, where it is free and was erased less often
abbrev pub best_with : List BlockBase → ℕ → Option ℕ → Option ℕ
best_with blocks sb best =
    cond (is_free_block (block_at blocks sb) && beats blocks (block_at blocks sb).erases best) (Some sb) best

-- 1 for true
abbrev pub one_if : Bool → ℕ
one_if b = cond b 1 0

-- the place of the only element that passes a test, after the one at a place was replaced: whether the old one and the
-- new one pass, and the place before
abbrev pub place_after : Bool → Bool → ℕ → Option ℕ → Option ℕ
place_after true true at place = place
place_after false false at place = place
place_after true false at place = None
place_after false true at place = Some at

-- whether the new one passes and the old one did: where only the new one does, none did before
abbrev pub MayBeOne : Bool → Bool → Option ℕ → Type 0
MayBeOne false old place = Unit {0}
MayBeOne true true place = Unit {0}
MayBeOne true false place = place ≡ None
