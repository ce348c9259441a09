-- The superblock of the next slot has a slot left, and is the frontier or may become it.
use Rattle.std.proofs.Common.{◌≡◌, ℕ, ◌<◌, ◌≤◌, List, length, Option, Some, None, Bool, true, false, arith, sym, IfSome, nat_lt, nat_le}
use Rattle.std.specs.List.{list_all}
use Rattle.std.proofs.lemmas.Bool.{and_parts, eqb-true, ltb-true}
use Rattle.std.proofs.lemmas.List.Quantifiers.{position-Some}
use Rattle.ssd_histories.specs.Blocks.{AreSound, blank_block, block_at, freshest_of, frontier_of, has_due_used, is_due_block, is_free_block, is_freshest, is_frontier_block, is_no_fresher}
use Rattle.ssd_histories.specs.States.{is_free, is_frontier}
use Rattle.ssd_geo.specs.declared.base.BlockBase.{BlockBase}
use Rattle.ssd_geo.specs.declared.superblock.SbState.{SbState}
use Rattle.ssd_geo.specs.declared.superblock.SbState.TheVariants.{Free, Frontier, Sealed, Bad, Victim}
use Rattle.allocator.proofs.Places.{all_at}
use Rattle.allocator.specs.Superblocks.{MayBeOne}

frontier_room : (state : SbState) (used slots : ℕ) → is_frontier state ≡ true → has_due_used slots state used ≡ true
    → used < slots
frontier_room Free used slots is due = cc
frontier_room Frontier used slots is due = ltb-true used slots (and_parts (nat_le 1 used) (nat_lt used slots) due).1
frontier_room Sealed used slots is due = cc
frontier_room Bad used slots is due = cc
frontier_room Victim used slots is due = cc

free_room : (state : SbState) (used slots : ℕ) → is_free state ≡ true → has_due_used slots state used ≡ true
    → 1 ≤ slots → used < slots
free_room Free used slots is due some = omega (arith, eqb-true used 0 due)
free_room Frontier used slots is due some = cc
free_room Sealed used slots is due some = cc
free_room Bad used slots is due some = cc
free_room Victim used slots is due some = cc

may_be : (old : Bool) (place : Option ℕ) → place ≡ None → MayBeOne true old place
may_be true place none = tt
may_be false place none = none

-- a slot is left, and the frontier is this superblock or none
pub record HasNext (slots : ℕ) (blocks : List BlockBase) (sb : ℕ) : Type 0 where
  pub in_range : sb < length blocks
  pub room : (block_at blocks sb).used < slots
  pub one_frontier : MayBeOne true (is_frontier_block (block_at blocks sb)) (frontier_of blocks)

pub next_frontier : (slots : ℕ) (blocks : List BlockBase) (sb : ℕ) → AreSound slots blocks → frontier_of blocks ≡ Some sb
    → HasNext slots blocks sb
next_frontier slots blocks sb sound is_f =
    let at = position-Some is_frontier_block blocks sb blank_block is_f in
    let here : is_frontier_block (block_at blocks sb) ≡ true = at.1 in
    record {
      in_range = at.0;
      room = frontier_room _ _ _ here (all_at (is_due_block slots) blocks sb blank_block sound.due at.0);
      one_frontier = rw here tt;
    }

next_free : (slots : ℕ) (blocks : List BlockBase) (sb : ℕ) → AreSound slots blocks → frontier_of blocks ≡ None
    → freshest_of blocks ≡ Some sb → HasNext slots blocks sb
next_free slots blocks sb sound is_f is_sb =
    let at = position-Some (is_freshest blocks) blocks sb blank_block is_sb in
    let here : is_free_block (block_at blocks sb) ≡ true =
    (and_parts (is_free_block (block_at blocks sb)) (list_all (is_no_fresher (block_at blocks sb)) blocks) at.1).0 in
    record {
      in_range = at.0;
      room = free_room _ _ _ here (all_at (is_due_block slots) blocks sb blank_block sound.due at.0) sound.some_slots;
      one_frontier = may_be (is_frontier_block (block_at blocks sb)) (frontier_of blocks) is_f;
    }

pub freshest_room : (slots : ℕ) (blocks : List BlockBase) (next : Option ℕ) → AreSound slots blocks
    → frontier_of blocks ≡ None → next ≡ freshest_of blocks → IfSome next (λ sb. (block_at blocks sb).used < slots)
freshest_room slots blocks None sound is_f is_next = tt
freshest_room slots blocks (Some sb) sound is_f is_next = (next_free slots blocks sb sound is_f (sym is_next)).room

-- what may become the only one may also not become it
pub may_be_any : (new old : Bool) (place : Option ℕ) → MayBeOne true old place → MayBeOne new old place
may_be_any true old place may = may
may_be_any false old place may = tt
