-- What is kept beside the superblocks stays theirs where one of them changes.
use Rattle.std.proofs.Common.{◌≡◌, ℕ, ◌+◌, ◌<◌, ◌≤◌, List, length, set, Option, arith, IsTrue}
use Rattle.std.proofs.lemmas.List.{length-set}
use Rattle.std.proofs.lemmas.List.Sums.{count_by-le-length, sum_by_more_le}
use Rattle.ssd_histories.specs.Blocks.{blank_block, block_at, frontier_of, is_due_block, is_free_block, is_frontier_block, is_victim_block, victim_in}
use Rattle.ssd_geo.specs.declared.base.BlockBase.{BlockBase}
use Rattle.allocator.proofs.Places.{all-set, count_by-set, IsOnly, only-set}
use Rattle.allocator.specs.Superblocks.{AreKept, MayBeOne, one_if, place_after}

pub kept-set : (slots : ℕ) (blocks : List BlockBase) (sb : ℕ) (block : BlockBase) (frontier victim : Option ℕ) (free free' : ℕ)
    → AreKept slots blocks frontier victim free → sb < length blocks → IsTrue (is_due_block slots block)
    → MayBeOne (is_frontier_block block) (is_frontier_block (block_at blocks sb)) (frontier_of blocks)
    → MayBeOne (is_victim_block block) (is_victim_block (block_at blocks sb)) (victim_in blocks)
    → free' + one_if (is_free_block (block_at blocks sb)) ≡ free + one_if (is_free_block block)
    → AreKept slots (set blocks sb block)
    (place_after (is_frontier_block (block_at blocks sb)) (is_frontier_block block) sb frontier)
    (place_after (is_victim_block (block_at blocks sb)) (is_victim_block block) sb victim)
    free'
kept-set slots blocks sb block frontier victim free free' kept lt due one_frontier one_victim recounted =
    let frontiers : IsOnly is_frontier_block (set blocks sb block)
    (place_after (is_frontier_block (block_at blocks sb)) (is_frontier_block block) sb frontier) =
    only-set is_frontier_block blocks sb block blank_block frontier lt
    (record { one = kept.sound.one_frontier; place_is = kept.frontier_is }) one_frontier in
    let victims : IsOnly is_victim_block (set blocks sb block)
    (place_after (is_victim_block (block_at blocks sb)) (is_victim_block block) sb victim) =
    only-set is_victim_block blocks sb block blank_block victim lt
    (record { one = kept.sound.one_victim; place_is = kept.victim_is }) one_victim in
    record {
      sound = record {
        some_slots = kept.sound.some_slots;
        few = rw length-set kept.sound.few;
        one_frontier = frontiers.one;
        one_victim = victims.one;
        due = all-set (is_due_block slots) blocks sb block kept.sound.due due;
      };
      frontier_is = frontiers.place_is;
      victim_is = victims.place_is;
      free_is = omega (arith, count_by-set is_free_block blocks sb block blank_block lt, kept.free_is, recounted);
    }

-- the number of free superblocks counts each free one, and is at most 256
pub free_in_range : (slots : ℕ) (blocks : List BlockBase) (sb : ℕ) (frontier victim : Option ℕ) (free : ℕ)
    → AreKept slots blocks frontier victim free → sb < length blocks
    → (one_if (is_free_block (block_at blocks sb)) ≤ free) × (free ≤ 256)
free_in_range slots blocks sb frontier victim free kept lt = (
  omega (arith, kept.free_is, sum_by_more_le (λ block. one_if (is_free_block block)) blocks sb blank_block lt),
  omega (arith, kept.free_is, kept.sound.few, count_by-le-length is_free_block blocks),
)
