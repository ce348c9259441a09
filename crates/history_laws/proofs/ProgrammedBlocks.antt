-- The reserve over a list of superblocks, before and after the next slot was used.
use Rattle.std.proofs.Common.{◌≡◌, ◌≢◌, ℕ, zero, suc, ◌+◌, ◌-◌, ◌<◌, ◌≤◌, ◌==◌, nat_le, ◌&&◌, ◌||◌, Bool, true, false, List, length, set, get_or, refl, ap, sym, ◌∙◌, subst, Option, Some, None, arith, ◌⊎◌, inl, inr}
use Rattle.std.specs.Prelude.{if◌then◌else◌, is_some, position, unwrap_or}
use Rattle.std.specs.List.{list_all, position_or_len}
use Rattle.std.proofs.lemmas.Bool.Decides.{nat_tests}
use Rattle.std.proofs.lemmas.List.{length-set, get_or-set_same, get_or-set_other}
use Rattle.std.proofs.lemmas.List.Folds.{position_or_len-set}
use Rattle.std.proofs.lemmas.List.Quantifiers.{position-Some}
use Rattle.std.proofs.lemmas.List.Sums.{fails_before_first, position_or_len_is}
use Rattle.ssd_geo.specs.declared.base.BlockBase.{BlockBase}
use Rattle.ssd_geo.specs.declared.superblock.SbState.{SbState}
use Rattle.ssd_histories.specs.Blocks as Blocks
use Rattle.ssd_histories.specs.States as States
use Rattle.history_laws.proofs.Counting.{count_set, one_false, one_true}
use Rattle.shared_lemmas.proofs.Positions.{place-new, place-same}

-- ---- the first item that passes a test

-- ---- the reserve

-- whether the reserve holds over superblocks, with the live pages of each
abbrev pub reserve_over : ℕ → List BlockBase → (ℕ → ℕ) → Bool
reserve_over slots blocks live =
    nat_le 1 (Blocks.free_blocks_in blocks)
    || elim (Blocks.victim_in blocks) as (λ _. Bool) [
      | Some sb ↦ nat_le (live sb) (Blocks.slots_left slots blocks)
      | None ↦ false
    ]

-- a victim's live pages fit into the frontier
pub record FitsVictim (slots : ℕ) (blocks : List BlockBase) (live : ℕ → ℕ) : Type 0 where
  pub sb : ℕ
  pub is_victim : Blocks.victim_in blocks ≡ Some sb
  pub fits : live sb ≤ Blocks.slots_left slots blocks

-- under the reserve a superblock is free, or a victim fits
pub reserve_parts : (slots : ℕ) (blocks : List BlockBase) (live : ℕ → ℕ) → reserve_over slots blocks live ≡ true
    → (1 ≤ Blocks.free_blocks_in blocks) ⊎ FitsVictim slots blocks live
reserve_parts slots blocks live e = by_victim (Blocks.victim_in blocks) refl e
  where
    no_victim : (n : ℕ) → (nat_le 1 n || false) ≡ true → 1 ≤ n
    no_victim n e = grind (arith, nat_tests)

    by_free : (n l m sb : ℕ) (b : Bool) → nat_le 1 n ≡ b → Blocks.victim_in blocks ≡ Some sb → m ≡ live sb
        → l ≡ Blocks.slots_left slots blocks
        → (b || nat_le m l) ≡ true → (1 ≤ n) ⊎ FitsVictim slots blocks live
    by_free n l m sb true f is m_is l_is e = inl (some n f)
      where
        some : (n : ℕ) → nat_le 1 n ≡ true → 1 ≤ n
        some n e = grind (arith, nat_tests)
    by_free n l m sb false f is m_is l_is e = inr
        (record { sb = sb; is_victim = is; fits = omega (arith, m_is, l_is, within m l e) })
      where
        within : (a b : ℕ) → nat_le a b ≡ true → a ≤ b
        within a b e = grind (arith, nat_tests)

    by_victim : (o : Option ℕ) → Blocks.victim_in blocks ≡ o
        → (nat_le 1 (Blocks.free_blocks_in blocks) || elim o as (λ _. Bool)
        [ Some sb ↦ nat_le (live sb) (Blocks.slots_left slots blocks) | None ↦ false ]) ≡ true
        → (1 ≤ Blocks.free_blocks_in blocks) ⊎ FitsVictim slots blocks live
    by_victim None is e = inl (no_victim (Blocks.free_blocks_in blocks) e)
    by_victim (Some sb) is e =
        by_free (Blocks.free_blocks_in blocks) (Blocks.slots_left slots blocks)
        (live sb) sb (nat_le 1 (Blocks.free_blocks_in blocks)) refl is refl refl e

-- and the other way round
pub free_is_reserve : (slots : ℕ) (blocks : List BlockBase) (live : ℕ → ℕ) → 1 ≤ Blocks.free_blocks_in blocks
    → reserve_over slots blocks live ≡ true
free_is_reserve slots blocks live some = either (nat_le 1 (Blocks.free_blocks_in blocks)) _
    (is_some_free (Blocks.free_blocks_in blocks) some)
  where
    is_some_free : (n : ℕ) → 1 ≤ n → nat_le 1 n ≡ true
    is_some_free n h = grind (arith, nat_tests)

    either : (a b : Bool) → a ≡ true → (a || b) ≡ true
    either true b e = refl
    either false b e = absurd (grind arith)

pub victim_is_reserve : (slots : ℕ) (blocks : List BlockBase) (live : ℕ → ℕ) → FitsVictim slots blocks live
    → reserve_over slots blocks live ≡ true
victim_is_reserve slots blocks live fit =
    either (nat_le 1 (Blocks.free_blocks_in blocks)) _
    (subst (λ (o : Option ℕ). elim o as (λ _. Bool)
    [ Some sb ↦ nat_le (live sb) (Blocks.slots_left slots blocks) | None ↦ false ] ≡ true)
    (sym fit.is_victim) (within (live fit.sb) (Blocks.slots_left slots blocks) fit.fits))
  where
    within : (a b : ℕ) → a ≤ b → nat_le a b ≡ true
    within a b h = grind (arith, nat_tests)

    either : (a b : Bool) → b ≡ true → (a || b) ≡ true
    either true b e = refl
    either false b e = e

-- fewer live pages keep it
pub reserve_with_less : (slots : ℕ) (blocks : List BlockBase) (live less : ℕ → ℕ) → ((sb : ℕ) → less sb ≤ live sb)
    → reserve_over slots blocks live ≡ true → reserve_over slots blocks less ≡ true
reserve_with_less slots blocks live less fewer e = by_parts (reserve_parts slots blocks live e)
  where
    by_parts : (1 ≤ Blocks.free_blocks_in blocks) ⊎ FitsVictim slots blocks live → reserve_over slots blocks less ≡ true
    by_parts (inl some) = free_is_reserve slots blocks less some
    by_parts (inr fit) =
        victim_is_reserve slots blocks less
        (record { sb = fit.sb; is_victim = fit.is_victim; fits = omega (arith, fit.fits, fewer fit.sb) })

-- ---- the next slot

-- the superblock of the next slot is the frontier, or the freshest free one where there is no frontier
next_parts : (frontier freshest : Option ℕ) (k : ℕ) → Blocks.first_some frontier freshest ≡ Some k
    → (frontier ≡ Some k) ⊎ ((frontier ≡ None) × (freshest ≡ Some k))
next_parts (Some sb) freshest k e = inl e
next_parts None freshest k e = inr (refl, e)

-- what a superblock is after its next slot was used
used_isnt_free : (slots : ℕ) (block : BlockBase) → Blocks.is_free_block (Blocks.with_slot_used slots block) ≡ false
used_isnt_free slots block = by_test (block.used + 1 == slots)
  where
    by_test : (b : Bool) → States.is_free (if b then SbState.Sealed else SbState.Frontier) ≡ false
    by_test true = refl
    by_test false = refl

used_isnt_victim : (slots : ℕ) (block : BlockBase) → Blocks.is_victim_block (Blocks.with_slot_used slots block) ≡ false
used_isnt_victim slots block = by_test (block.used + 1 == slots)
  where
    by_test : (b : Bool) → States.is_victim (if b then SbState.Sealed else SbState.Frontier) ≡ false
    by_test true = refl
    by_test false = refl

used_is_frontier : (slots : ℕ) (block : BlockBase) → (block.used + 1 == slots) ≡ false
    → Blocks.is_frontier_block (Blocks.with_slot_used slots block) ≡ true
used_is_frontier slots block e = ap {B = Bool}
    (λ (b : Bool). States.is_frontier (if b then SbState.Sealed else SbState.Frontier)) e

-- a frontier is neither free nor the victim
frontier_is_neither : (state : SbState) → States.is_frontier state ≡ true
    → (States.is_free state ≡ false) × (States.is_victim state ≡ false)
frontier_is_neither SbState.Frontier e = (refl, refl)
frontier_is_neither SbState.Free e = absurd (grind arith)
frontier_is_neither SbState.Sealed e = absurd (grind arith)
frontier_is_neither SbState.Bad e = absurd (grind arith)
frontier_is_neither SbState.Victim e = absurd (grind arith)

-- and a free superblock isn't the victim
free_is_no_victim : (state : SbState) → States.is_free state ≡ true → States.is_victim state ≡ false
free_is_no_victim SbState.Free e = refl
free_is_no_victim SbState.Frontier e = absurd (grind arith)
free_is_no_victim SbState.Sealed e = absurd (grind arith)
free_is_no_victim SbState.Bad e = absurd (grind arith)
free_is_no_victim SbState.Victim e = absurd (grind arith)

-- the superblocks after the next slot was used, where it is this one's
abbrev pub after_next : ℕ → List BlockBase → ℕ → List BlockBase
after_next slots blocks k = set blocks k (Blocks.with_slot_used slots (Blocks.block_at blocks k))

-- the slot is the frontier's: as many superblocks are free, and one slot fewer is left at most
pub record UsesFrontier (slots : ℕ) (before after : List BlockBase) : Type 0 where
  pub frontier : is_some (Blocks.frontier_of before) ≡ true
  pub free : Blocks.free_blocks_in after ≡ Blocks.free_blocks_in before
  pub left : Blocks.slots_left slots before ≤ Blocks.slots_left slots after + 1

-- the slot is a free superblock's, which has all slots but one left then
pub record UsesFree (slots : ℕ) (before after : List BlockBase) : Type 0 where
  pub frontier : is_some (Blocks.frontier_of before) ≡ false
  pub free : Blocks.free_blocks_in after + 1 ≡ Blocks.free_blocks_in before
  pub left : slots ≤ Blocks.slots_left slots after + 1

-- the victim is the same, and one of these holds
pub record IsUsedNext (slots : ℕ) (blocks : List BlockBase) (k : ℕ) : Type 0 where
  pub victim : Blocks.victim_in (after_next slots blocks k) ≡ Blocks.victim_in blocks
  pub room : UsesFrontier slots blocks (after_next slots blocks k) ⊎ UsesFree slots blocks (after_next slots blocks k)

-- a frontier that has a slot left keeps all but one of them
left_after : (slots used : ℕ) (blocks : List BlockBase) (k : ℕ) (b : Bool) → (used + 1 == slots) ≡ b
    → ((used + 1 == slots) ≡ false → Blocks.slots_left slots blocks ≡ slots - (used + 1))
    → slots ≤ Blocks.slots_left slots blocks + 1 + used
left_after slots used blocks k true e left = last slots used e
  where
    last : (n u : ℕ) → (u + 1 == n) ≡ true → n ≤ Blocks.slots_left slots blocks + 1 + u
    last n u e = omega (arith, number n u e)
      where
        number : (n u : ℕ) → (u + 1 == n) ≡ true → u + 1 ≡ n
        number n u e = grind (arith, nat_tests)
left_after slots used blocks k false e left = omega (arith, left e)

-- the slots left in the superblock that is found to be the frontier
left_of : (slots : ℕ) (blocks : List BlockBase) (k : ℕ) → Blocks.frontier_of blocks ≡ Some k
    → Blocks.slots_left slots blocks ≡ slots - (Blocks.block_at blocks k).used
left_of slots blocks k e = ap {B = ℕ} (Blocks.left_in slots blocks) e

-- one of these holds of the superblock of the next slot
pub used_next : (slots : ℕ) (blocks : List BlockBase) (k : ℕ) → Blocks.next_superblock blocks ≡ Some k
    → ((sb : ℕ) → Blocks.is_free_block (Blocks.block_at blocks sb) ≡ true → (Blocks.block_at blocks sb).used ≡ 0)
    → IsUsedNext slots blocks k
used_next slots blocks k next unused = by_parts (next_parts (Blocks.frontier_of blocks) (Blocks.freshest_of blocks) k next)
  where
    block : BlockBase
    block = Blocks.block_at blocks k

    after : BlockBase
    after = Blocks.with_slot_used slots block

    same_victim : Blocks.is_victim_block block ≡ false → Blocks.victim_in (set blocks k after) ≡ Blocks.victim_in blocks
    same_victim other = place-same Blocks.is_victim_block blocks k after Blocks.blank_block (used_isnt_victim slots block
        ∙ sym other)

    -- the slots left after the superblock with the next slot is the frontier, if it still has one
    left : k < length blocks → Blocks.frontier_of (set blocks k after) ≡ Some k
        → Blocks.slots_left slots (set blocks k after) ≡ slots - (block.used + 1)
    left lt is =
        left_of slots (set blocks k after) k is
        ∙ ap {B = ℕ} (λ (b : BlockBase). slots - b.used) (get_or-set_same blocks k after Blocks.blank_block lt)

    by_parts : (Blocks.frontier_of blocks ≡ Some k) ⊎
        ((Blocks.frontier_of blocks ≡ None) × (Blocks.freshest_of blocks ≡ Some k)) → IsUsedNext slots blocks k
    by_parts (inl is) =
        let found : (k < length blocks) × (Blocks.is_frontier_block block ≡ true) × ((i : ℕ) → i < k
        → Blocks.is_frontier_block (get_or blocks i Blocks.blank_block) ≡ false) =
        position-Some Blocks.is_frontier_block blocks k Blocks.blank_block is in
        let neither : (States.is_free block.state ≡ false) × (States.is_victim block.state ≡ false) = frontier_is_neither
        block.state found.1 in
        let still : (block.used + 1 == slots) ≡ false → Blocks.frontier_of (set blocks k after) ≡ Some k =
        λ e. place-same Blocks.is_frontier_block blocks k after Blocks.blank_block (used_is_frontier slots block e
        ∙ sym found.1) ∙ is in
        record {
          victim = same_victim neither.1;
          room = inl (record {
            frontier = ap {B = Bool} is_some is;
            free = omega (
              arith,
              count_set Blocks.is_free_block blocks k after Blocks.blank_block found.0,
              one_false (Blocks.is_free_block after) (used_isnt_free slots block),
              one_false (Blocks.is_free_block block) neither.0,
            );
            left = omega (
              arith,
              left_of slots blocks k is,
              left_after slots block.used (set blocks k after) k (block.used + 1 == slots) refl (λ e. left found.0 (still e)),
            );
          });
        }
    by_parts (inr both) =
        let found : (k < length blocks) × (Blocks.is_freshest blocks block ≡ true) × ((i : ℕ) → i < k
        → Blocks.is_freshest blocks (get_or blocks i Blocks.blank_block) ≡ false) =
        position-Some (Blocks.is_freshest blocks) blocks k Blocks.blank_block both.1 in
        let free : Blocks.is_free_block block ≡ true = first (Blocks.is_free_block block)
        (list_all (Blocks.is_no_fresher block) blocks) found.1 in
        let now : (block.used + 1 == slots) ≡ false → Blocks.frontier_of (set blocks k after) ≡ Some k =
        λ e. place-new Blocks.is_frontier_block blocks k after Blocks.blank_block found.0 both.0
        (used_is_frontier slots block e) in
        record {
          victim = same_victim (free_is_no_victim block.state free);
          room = inr (record {
            frontier = ap {B = Bool} is_some both.0;
            free = omega (
              arith,
              count_set Blocks.is_free_block blocks k after Blocks.blank_block found.0,
              one_false (Blocks.is_free_block after) (used_isnt_free slots block),
              one_true (Blocks.is_free_block block) free,
            );
            left = omega (
              arith,
              unused k free,
              left_after slots block.used (set blocks k after) k (block.used + 1 == slots) refl (λ e. left found.0 (now e)),
            );
          });
        }
      where
        first : (a b : Bool) → (a && b) ≡ true → a ≡ true
        first true b e = refl
        first false b e = absurd (grind arith)

-- where the host has room, a superblock is still free after the next slot was used
pub host_leaves_free : (slots : ℕ) (blocks : List BlockBase) (k : ℕ) → IsUsedNext slots blocks k
    → Blocks.blocks_have_room blocks ≡ true
    → 1 ≤ Blocks.free_blocks_in (after_next slots blocks k)
host_leaves_free slots blocks k next room = by_room next.room
  where
    one_free : (f : Bool) (n : ℕ) → (f && nat_le 1 n || nat_le 2 n) ≡ true → 1 ≤ n
    one_free f n e = grind (arith, nat_tests)

    two_free : (f : Bool) (n : ℕ) → f ≡ false → (f && nat_le 1 n || nat_le 2 n) ≡ true → 2 ≤ n
    two_free true n none e = absurd (grind arith)
    two_free false n none e = grind (arith, nat_tests)

    by_room : UsesFrontier slots blocks (after_next slots blocks k) ⊎ UsesFree slots blocks (after_next slots blocks k)
        → 1 ≤ Blocks.free_blocks_in (after_next slots blocks k)
    by_room (inl uses) = omega (
      arith,
      uses.free,
      one_free (is_some (Blocks.frontier_of blocks))
          (Blocks.free_blocks_in blocks) room,
    )
    by_room (inr uses) = omega (
      arith,
      uses.free,
      two_free (is_some (Blocks.frontier_of blocks))
          (Blocks.free_blocks_in blocks) uses.frontier room,
    )

-- the reserve stays where the next slot takes a page out of the victim
pub copy_keeps_reserve : (slots : ℕ) (blocks : List BlockBase) (k sb : ℕ) (live less : ℕ → ℕ) → IsUsedNext slots blocks k
    → Blocks.victim_in blocks ≡ Some sb
    → live sb ≤ slots → less sb + 1 ≤ live sb → reserve_over slots blocks live ≡ true
    → reserve_over slots (after_next slots blocks k) less ≡ true
copy_keeps_reserve slots blocks k sb live less next victim few fewer reserve = by_free (Blocks.free_blocks_in after) refl
  where
    after : List BlockBase
    after = after_next slots blocks k

    same_number : (a : ℕ) → ◌≡◌ {A = Option ℕ} (Some a) (Some sb) → a ≡ sb
    same_number a e = ap {B = ℕ} (λ (o : Option ℕ). unwrap_or o a) e

    -- where none is free any more the victim's live pages fit into what is left
    fits : Blocks.free_blocks_in after ≡ 0 → less sb ≤ Blocks.slots_left slots after
    fits none = by_room next.room (reserve_parts slots blocks live reserve)
      where
        by_room : UsesFrontier slots blocks after ⊎ UsesFree slots blocks after
            → (1 ≤ Blocks.free_blocks_in blocks) ⊎ FitsVictim slots blocks live
            → less sb ≤ Blocks.slots_left slots after
        by_room (inl uses) (inl some) = absurd (omega (arith, uses.free, none, some))
        by_room (inl uses) (inr fit) =
            omega (arith, uses.left, fit.fits, fewer, ap {B = ℕ} live (same_number fit.sb (sym fit.is_victim ∙ victim)))
        by_room (inr uses) parts = omega (arith, uses.left, few, fewer)

    by_free : (n : ℕ) → Blocks.free_blocks_in after ≡ n → reserve_over slots after less ≡ true
    by_free zero none = victim_is_reserve slots after less
        (record { sb = sb; is_victim = next.victim ∙ victim; fits = fits none })
    by_free (suc n) some = free_is_reserve slots after less (omega (arith, some))
