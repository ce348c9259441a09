-- The next slot is the first of its superblock that isn't used, and what its use changes.
use Rattle.std.proofs.Common.{◌≡◌, ℕ, List, set, Option, Some, None, refl, ap, subst}
use Rattle.std.specs.Prelude.{unwrap_or}
use Rattle.ssd_histories.specs.Blocks.{block_at, next_slot_of, next_superblock, slot_after_used, slot_in, used_in, with_next_used, with_slot_used}
use Rattle.ssd_geo.specs.declared.base.BlockBase.{BlockBase}
use Rattle.ssd_geo.specs.declared.slot.Slot.{Slot}
use Rattle.ssd_histories.proofs.PinnedWords.{slot_block}

pub slot_is_after : (blocks : List BlockBase) (o : Option ℕ) (slot : Slot) → slot_in blocks o ≡ Some slot → slot.index ≡ (block_at blocks slot.sb).used
slot_is_after blocks None slot e = cc
slot_is_after blocks (Some sb) slot e =
    let same : slot_after_used blocks sb ≡ slot = ap {B = Slot} (λ (o : Option Slot). unwrap_or o slot) e in
    subst (λ (s : Slot). s.index ≡ (block_at blocks s.sb).used) same refl

-- the next slot is the first one of its superblock that isn't used
pub next_index : (blocks : List BlockBase) (slot : Slot) → next_slot_of blocks ≡ Some slot → slot.index ≡ (block_at blocks slot.sb).used
next_index blocks slot next = slot_is_after blocks (next_superblock blocks) slot next

-- the superblocks after the next slot was used
pub next_used : (slots : ℕ) (blocks : List BlockBase) (slot : Slot) → next_slot_of blocks ≡ Some slot
    → with_next_used slots blocks ≡ set blocks slot.sb (with_slot_used slots (block_at blocks slot.sb))
next_used slots blocks slot next = ap (used_in slots blocks) (slot_block blocks (next_superblock blocks) slot next)
