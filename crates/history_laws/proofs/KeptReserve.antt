-- The reserve stays: the proofs of the laws of specs/KeptReserve.antt.
use Rattle.std.proofs.Common.{◌≡◌, ℕ, ◌+◌, ◌<◌, ◌≤◌, ◌==◌, ◌&&◌, ◌||◌, not, Bool, true, false, List, [], ◌∷◌, ◌++◌, length, set, get_or, refl, ap, sym, ◌∙◌, subst, Option, Some, None, arith, ◌⊎◌, inl, inr}
use Rattle.std.specs.Prelude.{IsSomeAnd, if◌then◌else◌}
use Rattle.std.proofs.lemmas.Bool.{cases_lt}
use Rattle.std.proofs.lemmas.Bool.Decides.{nat_tests}
use Rattle.std.proofs.lemmas.List.{get_or-set_same, get_or_past, length-set}
use Rattle.std.proofs.lemmas.List.FromFn.{length-map-range_with_len}
use Rattle.std.proofs.lemmas.List.Sums.{get_or-le-sum_by}
use Rattle.ssd_geo.specs.Ladder.{LadderState}
use Rattle.ssd_geo.specs.declared.base.BlockBase.{BlockBase}
use Rattle.ssd_geo.specs.declared.base.ChannelBase.{ChannelBase}
use Rattle.ssd_geo.specs.declared.entry.Entry.{Entry}
use Rattle.ssd_geo.specs.declared.kind.Kind.{Kind}
use Rattle.ssd_geo.specs.declared.look.Look.{Look}
use Rattle.ssd_geo.specs.declared.row.Row.{Row}
use Rattle.ssd_geo.specs.declared.slot.Slot.{Slot}
use Rattle.ssd_geo.specs.declared.superblock.SbState.{SbState}
use Rattle.ssd_geo.specs.declared.tag.Tag.{Tag}
use Rattle.ssd_histories.specs.Blocks as Blocks
use Rattle.ssd_histories.specs.History.{look_of, open_look}
use Rattle.ssd_histories.specs.Lawful.{IsLawfulBy, IsLawfulMove}
use Rattle.ssd_histories.specs.PastBlocks.{block_of, blocks_of, is_bad_superblock, is_picked, slots_in, state_by, used_of}
use Rattle.ssd_histories.specs.PastRows.{rows_of}
use Rattle.ssd_histories.specs.Reserve.{has_no_bad_kind, has_reserve, is_bad_kind}
use Rattle.ssd_histories.specs.Room.{has_host_room, is_victim_now, live_of, next_slot, victim_of}
use Rattle.ssd_histories.specs.Standing.{IsStart}
use Rattle.ssd_histories.specs.Start.{Start}
use Rattle.ssd_histories.specs.States as States
use Rattle.ssd_histories.proofs.BlockSteps.{blocks_after_entry}
use Rattle.ssd_histories.proofs.Histories.{lawful_before_last}
use Rattle.ssd_histories.proofs.OneOfEach.{found_block}
use Rattle.ssd_histories.proofs.PinnedWords.{slot_block}
use Rattle.ssd_histories.proofs.ReserveLaws.{picks_leave_reserve, reserve_is_not_worn}
use Rattle.ssd_histories.proofs.UsedSlots.{block_is, made}
use Rattle.history_laws.specs.KeptReserve.{PicksAreReserved, ReserveStays}
use Rattle.history_laws.specs.LivePages.{FitsItsSlots}
use Rattle.history_laws.proofs.Counting.{one}
use Rattle.history_laws.proofs.LivePages.{live_after, live_cleared, live_lost, live_pages_fit}
use Rattle.history_laws.proofs.ProgrammedBlocks.{IsUsedNext, copy_keeps_reserve, free_is_reserve, host_leaves_free, reserve_over, reserve_with_less, used_next}
use Rattle.history_laws.proofs.VictimPages.{copies_take_pages}

-- a free superblock has no slot used
free_block_unused : (base : ChannelBase) (past : List Entry) (sb : ℕ)
    → Blocks.is_free_block (Blocks.block_at (blocks_of base past) sb) ≡ true
    → (Blocks.block_at (blocks_of base past) sb).used ≡ 0
free_block_unused base past sb e = by_range (cases_lt sb base.shape.superblocks)
  where
    number : (used : ℕ) → (used == 0) ≡ true → used ≡ 0
    number used e = grind (arith, nat_tests)

    by_tests : (used : ℕ) (a b : Bool) → (used == 0) ≡ a
        → States.is_free (if a then SbState.Free else if b then SbState.Sealed else SbState.Frontier) ≡ true → used ≡ 0
    by_tests used true b here e = number used here
    by_tests used false true there e = absurd (grind arith)
    by_tests used false false there e = absurd (grind arith)

    by_state : (bad picked : Bool) (slots used : ℕ) → States.is_free (state_by bad picked slots used) ≡ true → used ≡ 0
    by_state true picked slots used e = absurd (grind arith)
    by_state false true slots used e = absurd (grind arith)
    by_state false false slots used e = by_tests used (used == 0) (used == slots) refl e

    by_range : (sb < base.shape.superblocks) ⊎ (base.shape.superblocks ≤ sb)
        → (Blocks.block_at (blocks_of base past) sb).used ≡ 0
    by_range (inl lt) =
        let is : Blocks.block_at (blocks_of base past) sb ≡ block_of base past sb = block_is base past sb lt in
        ap {B = ℕ} (λ (block : BlockBase). block.used) is
        ∙ by_state (is_bad_superblock base past sb) (is_picked base past sb) (slots_in base) (used_of base past sb)
        (subst (λ (block : BlockBase). Blocks.is_free_block block ≡ true) is e)
    by_range (inr le) =
        ap {B = ℕ} (λ (block : BlockBase). block.used)
        (get_or_past (blocks_of base past) sb Blocks.blank_block
        (omega (arith, le, length-map-range_with_len (block_of base past) 0 base.shape.superblocks)))

-- what the next slot's superblock becomes, where an entry programs it
pub next_is_used : (base : ChannelBase) (past : List Entry) (slot : Slot) → next_slot base past ≡ Some slot
    → IsUsedNext (slots_in base) (blocks_of base past) slot.sb
next_is_used base past slot next =
    used_next (slots_in base) (blocks_of base past) slot.sb
    (slot_block (blocks_of base past) (Blocks.next_superblock (blocks_of base past)) slot next)
    (free_block_unused base past)

-- the superblocks after an entry that programs the next slot
pub blocks_after_next : (base : ChannelBase) (past : List Entry) (entry : Entry) (slot : Slot) → next_slot base past ≡ Some slot
    → blocks_of base (entry ∷ past) ≡ Blocks.with_next_used (slots_in base) (blocks_of base past)
    → blocks_of base (entry ∷ past) ≡ set (blocks_of base past) slot.sb
    (Blocks.with_slot_used (slots_in base) (Blocks.block_at (blocks_of base past) slot.sb))
blocks_after_next base past entry slot next after =
    after ∙ ap {B = List BlockBase} (Blocks.used_in (slots_in base) (blocks_of base past))
    (slot_block (blocks_of base past) (Blocks.next_superblock (blocks_of base past)) slot next)

-- a program for which the host had room leaves the reserve
host_reserve : (base : ChannelBase) (past : List Entry) (entry : Entry) (slot : Slot) → next_slot base past ≡ Some slot
    → has_host_room base past ≡ true
    → blocks_of base (entry ∷ past) ≡ Blocks.with_next_used (slots_in base) (blocks_of base past)
    → has_reserve base (entry ∷ past) ≡ true
host_reserve base past entry slot next room after =
    free_is_reserve (slots_in base) (blocks_of base (entry ∷ past)) (live_of base (entry ∷ past))
    (subst (λ (blocks : List BlockBase). 1 ≤ Blocks.free_blocks_in blocks)
    (sym (blocks_after_next base past entry slot next after))
    (host_leaves_free (slots_in base) (blocks_of base past) slot.sb (next_is_used base past slot next) room))

-- so does a copy out of the victim, if the reserve held
copy_reserve : (base : ChannelBase) (past : List Entry) (entry : Entry) (slot : Slot) (sb : ℕ)
    → next_slot base past ≡ Some slot → victim_of base past ≡ Some sb
    → live_of base past sb ≤ slots_in base → live_of base (entry ∷ past) sb + 1 ≡ live_of base past sb
    → blocks_of base (entry ∷ past) ≡ Blocks.with_next_used (slots_in base) (blocks_of base past) → has_reserve base past ≡ true
    → has_reserve base (entry ∷ past) ≡ true
copy_reserve base past entry slot sb next victim few fewer after reserve =
    subst (λ (blocks : List BlockBase). reserve_over (slots_in base) blocks (live_of base (entry ∷ past)) ≡ true)
    (sym (blocks_after_next base past entry slot next after))
    (copy_keeps_reserve (slots_in base) (blocks_of base past) slot.sb sb (live_of base past) (live_of base (entry ∷ past))
    (next_is_used base past slot next) victim few
    (omega (arith, fewer)) reserve)

-- an erase leaves one superblock free at least
erased_reserve : (base : ChannelBase) (past : List Entry) (entry : Entry) (sb : ℕ) → victim_of base past ≡ Some sb
    → blocks_of base (entry ∷ past) ≡ Blocks.with_erased (blocks_of base past) sb → has_reserve base (entry ∷ past) ≡ true
erased_reserve base past entry sb victim after =
    free_is_reserve (slots_in base) (blocks_of base (entry ∷ past)) (live_of base (entry ∷ past))
    (subst (λ (blocks : List BlockBase). 1 ≤ Blocks.free_blocks_in blocks) (sym after)
    (omega (
      arith,
      get_or-le-sum_by (λ (b : BlockBase). one (Blocks.is_free_block b)) erased sb Blocks.blank_block (rw length-set within),
      now_free,
    )))
  where
    blocks : List BlockBase
    blocks = blocks_of base past

    block : BlockBase
    block = Blocks.erased_block (Blocks.block_at blocks sb)

    erased : List BlockBase
    erased = set blocks sb block

    within : sb < length blocks
    within =
        omega (
          arith,
          (found_block base past Blocks.is_victim_block sb victim).0,
          length-map-range_with_len (block_of base past) 0 base.shape.superblocks,
        )

    now_free : one (Blocks.is_free_block (get_or erased sb Blocks.blank_block)) ≡ 1
    now_free = ap {B = ℕ} (λ (b : BlockBase). one (Blocks.is_free_block b))
        (get_or-set_same blocks sb block Blocks.blank_block within)

-- the victim that a look stands in
victim_now : (o : Option ℕ) (sb : ℕ) → (elim o as (λ _. Bool) [ Some victim ↦ victim == sb | None ↦ false ]) ≡ true
    → o ≡ Some sb
victim_now None sb e = absurd (grind arith)
victim_now (Some victim) sb e = ap {B = Option ℕ} (λ (n : ℕ). Some n) (same_number victim e)
  where
    same_number : (a : ℕ) → (a == sb) ≡ true → a ≡ sb
    same_number a e = grind (arith, nat_tests)

pub is_victim_of : (base : ChannelBase) (past : List Entry) (sb : ℕ) → is_victim_now base past sb ≡ true
    → victim_of base past ≡ Some sb
is_victim_of base past sb e = victim_now (victim_of base past) sb e

-- a copy is made where the host has room, or out of the victim
room_parts : (a b : Bool) → (a || b) ≡ true → (a ≡ true) ⊎ (b ≡ true)
room_parts true b e = inl refl
room_parts false b e = inr e

-- a fact of some value gives one that may speak of it
some_more : (o : Option Look) (P Q : Look → Type 0) → ((look : Look) → P look → Q look) → IsSomeAnd o P → IsSomeAnd o Q
some_more None P Q f h = h
some_more (Some look) P Q f h = f look h

-- the reserve after one more entry that isn't of a bad kind
module _ (ladder : List Entry → ℕ → LadderState) (start : Start) (past : List Entry) (is_start : IsStart start) where
  few_live : IsLawfulBy ladder start.base past → (sb : ℕ) → victim_of start.base past ≡ Some sb
      → live_of start.base past sb ≤ slots_in start.base
  few_live lawful sb victim =
      let fits : FitsItsSlots start.base past sb =
      live_pages_fit ladder start past sb is_start lawful (found_block start.base past Blocks.is_victim_block sb victim).0 in
      omega (arith, fits.live, fits.used)

  moved_reserve : (tag : Tag) (at : ℕ) (slot : Slot) → IsLawfulBy ladder start.base (made tag (Kind.Move at slot) ∷ past)
      → has_reserve start.base past ≡ true
      → has_reserve start.base (made tag (Kind.Move at slot) ∷ past) ≡ true
  moved_reserve tag at slot lawful reserve = by_look (open_look past tag at) refl lawful.1.meets
    where
      after : blocks_of start.base (made tag (Kind.Move at slot) ∷ past) ≡ Blocks.with_next_used (slots_in start.base)
          (blocks_of start.base past)
      after = blocks_after_entry ladder start.base (made tag (Kind.Move at slot)) past lawful

      by_look : (o : Option Look) → open_look past tag at ≡ o
          → IsSomeAnd o (λ look. IsLawfulMove (ladder past at) start.base past look slot)
          → has_reserve start.base (made tag (Kind.Move at slot) ∷ past) ≡ true
      by_look None is c = absurd c
      by_look (Some look) is c =
          by_room (room_parts (has_host_room start.base past) (is_victim_now start.base past look.slot.sb) c.may_copy.has_room)
        where
          inside : IsSomeAnd (open_look past tag at) (λ other. other.slot.sb ≡ look.slot.sb)
          inside = subst (λ (o : Option Look). IsSomeAnd o (λ other. other.slot.sb ≡ look.slot.sb)) (sym is) refl

          by_room : (has_host_room start.base past ≡ true) ⊎ (is_victim_now start.base past look.slot.sb ≡ true)
              → has_reserve start.base (made tag (Kind.Move at slot) ∷ past) ≡ true
          by_room (inl room) = host_reserve start.base past (made tag (Kind.Move at slot)) slot c.is_programmed.is_next room
              after
          by_room (inr here) =
              let victim : victim_of start.base past ≡ Some look.slot.sb = is_victim_of start.base past look.slot.sb here in
              copy_reserve start.base past (made tag (Kind.Move at slot)) slot look.slot.sb c.is_programmed.is_next victim
              (few_live lawful.0 look.slot.sb victim)
              (copies_take_pages ladder start.base past tag at look.slot.sb slot lawful victim inside) after reserve

  -- an entry that leaves the superblocks and gives none a live page
  left_reserve : (tag : Tag) (kind : Kind) → blocks_of start.base (made tag kind ∷ past) ≡ blocks_of start.base past
      → ((sb : ℕ) → live_of start.base (made tag kind ∷ past) sb ≤ live_of start.base past sb)
      → has_reserve start.base past ≡ true
      → has_reserve start.base (made tag kind ∷ past) ≡ true
  left_reserve tag kind same fewer reserve =
      subst (λ (blocks : List BlockBase). reserve_over (slots_in start.base) blocks
      (live_of start.base (made tag kind ∷ past)) ≡ true) (sym same)
      (reserve_with_less (slots_in start.base) (blocks_of start.base past) (live_of start.base past)
      (live_of start.base (made tag kind ∷ past)) fewer reserve)

  reserve_step : (tag : Tag) (kind : Kind) → IsLawfulBy ladder start.base (made tag kind ∷ past) → is_bad_kind kind ≡ false
      → has_reserve start.base past ≡ true
      → has_reserve start.base (made tag kind ∷ past) ≡ true
  reserve_step tag (Kind.Write row slot) lawful good reserve =
      host_reserve start.base past (made tag (Kind.Write row slot)) slot lawful.1.meets.is_programmed.is_next
      lawful.1.meets.has_room
      (blocks_after_entry ladder start.base (made tag (Kind.Write row slot)) past lawful)
  reserve_step tag (Kind.Move at slot) lawful good reserve = moved_reserve tag at slot lawful reserve
  reserve_step tag (Kind.Trim row) lawful good reserve =
      left_reserve tag (Kind.Trim row) refl
      (λ sb. omega (
        arith,
        live_after start.base (made tag (Kind.Trim row)) past sb,
        live_cleared (rows_of start.base past)
            row sb Row.Empty refl,
      )) reserve
  reserve_step tag (Kind.Condemn at) lawful good reserve =
      left_reserve tag (Kind.Condemn at) refl
      (λ sb. omega (
        arith,
        live_after start.base (made tag (Kind.Condemn at)) past sb,
        live_lost (look_of past at)
            (rows_of start.base past) sb,
      )) reserve
  reserve_step tag (Kind.Pick sb) lawful good reserve = picks_leave_reserve ladder start.base tag sb past lawful
  reserve_step tag (Kind.Erase sb) lawful good reserve = erased_reserve start.base past (made tag (Kind.Erase sb)) sb
      lawful.1.meets.may_erase.is_victim
      (blocks_after_entry ladder start.base (made tag (Kind.Erase sb)) past lawful)
  reserve_step tag (Kind.BadWrite row slot die fault) lawful good reserve = absurd (grind arith)
  reserve_step tag (Kind.BadCopy at slot die fault) lawful good reserve = absurd (grind arith)
  reserve_step tag (Kind.BadErase sb die fault) lawful good reserve = absurd (grind arith)
  reserve_step tag kind lawful good reserve = reserve

-- no entry of a list is of a bad kind: not the newest, and none of the others
pub good_parts : (entry : Entry) (newer : List Entry) → has_no_bad_kind (entry ∷ newer) ≡ true
    → (is_bad_kind entry.kind ≡ false) × (has_no_bad_kind newer ≡ true)
good_parts entry newer e = by_test (is_bad_kind entry.kind) e
  where
    by_test : (b : Bool) → (not b && has_no_bad_kind newer) ≡ true → (b ≡ false) × (has_no_bad_kind newer ≡ true)
    by_test true e = absurd (grind arith)
    by_test false e = (refl, e)

-- so no newer entry takes the reserve
pub reserve_kept : (ladder : List Entry → ℕ → LadderState) (start : Start) (newer past : List Entry) → IsStart start
    → IsLawfulBy ladder start.base (newer ++ past)
    → has_no_bad_kind newer ≡ true → has_reserve start.base past ≡ true → has_reserve start.base (newer ++ past) ≡ true
reserve_kept ladder start [] past is_start lawful good reserve = reserve
reserve_kept ladder start (entry ∷ newer) past is_start lawful good reserve =
    let parts : (is_bad_kind entry.kind ≡ false) × (has_no_bad_kind newer ≡ true) = good_parts entry newer good in
    reserve_step ladder start (newer ++ past) is_start entry.tag entry.kind lawful parts.0
    (reserve_kept ladder start newer past is_start lawful.0 parts.1 reserve)

-- and under it the channel isn't worn
pub reserve_stays : ReserveStays
reserve_stays ladder start newer past is_start lawful good reserve =
    let kept : has_reserve start.base (newer ++ past) ≡ true = reserve_kept ladder start newer past is_start lawful good
    reserve in
    record { reserve = kept; not_worn = reserve_is_not_worn start.base (newer ++ past) kept }

-- a pick leaves it
pub picks_are_reserved : PicksAreReserved
picks_are_reserved ladder start newer past tag sb is_start lawful good =
    let entry : Entry = record { tag = tag; kind = Kind.Pick sb } in
    reserve_stays ladder start newer (entry ∷ past) is_start lawful good
    (picks_leave_reserve ladder start.base tag sb past (lawful_before_last ladder start.base newer (entry ∷ past) lawful))
