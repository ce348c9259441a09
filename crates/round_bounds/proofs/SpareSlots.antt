-- From a pick on, more slots than the victim has live pages can be filled, as long as no program fails: so once the victim is
-- erased the host has room.
use Rattle.std.proofs.Common.{◌≡◌, ℕ, ◌+◌, ◌<◌, ◌≤◌, ◌&&◌, ◌||◌, nat_lt, nat_le, Bool, true, false, List, ◌∷◌, length, get_or, refl, ap, sym, subst, ◌∙◌, Option, Some, None, arith, ◌⊎◌, inl, inr}
use Rattle.std.specs.Prelude.{IsSomeAnd, is_some, unwrap_or}
use Rattle.std.proofs.lemmas.Bool.{and_parts, false≢true, or_cases, or_left, or_right, ltb-true}
use Rattle.std.proofs.lemmas.Bool.Decides.{nat_tests}
use Rattle.std.proofs.lemmas.List.FromFn.{get_or-map-range_with_len}
use Rattle.ssd_geo.specs.Ladder.{LadderState}
use Rattle.ssd_geo.specs.declared.base.BlockBase.{BlockBase}
use Rattle.ssd_geo.specs.declared.base.ChannelBase.{ChannelBase}
use Rattle.ssd_geo.specs.declared.entry.Entry.{Entry}
use Rattle.ssd_geo.specs.declared.kind.Kind.{Kind}
use Rattle.ssd_geo.specs.declared.look.Look.{Look}
use Rattle.ssd_geo.specs.declared.row.Row.{Row}
use Rattle.ssd_geo.specs.declared.slot.Slot.{Slot}
use Rattle.ssd_geo.specs.declared.superblock.SbInfo.{SbInfo}
use Rattle.ssd_geo.specs.declared.superblock.SbState.{SbState}
use Rattle.ssd_geo.specs.declared.tag.Tag.{Tag}
use Rattle.ssd_histories.specs.Blocks as Blocks
use Rattle.ssd_histories.specs.History.{look_of, open_look, open_looks}
use Rattle.ssd_histories.specs.Lawful.{IsLawfulBy, IsLawfulMove}
use Rattle.ssd_histories.specs.PageMap.{live_in}
use Rattle.ssd_histories.specs.PastBlocks.{blocks_of, slots_in, state_of}
use Rattle.ssd_histories.specs.PastRows.{rows_of}
use Rattle.ssd_histories.specs.Policies as Policies
use Rattle.ssd_histories.specs.Reserve.{is_bad_kind}
use Rattle.ssd_histories.specs.Room.{has_garbage, has_host_room, is_victim_now, live_of, table_of}
use Rattle.ssd_histories.specs.States as States
use Rattle.ssd_histories.proofs.BlockSteps.{blocks_after_entry, candidate_sealed, victim_no_frontier}
use Rattle.ssd_histories.proofs.OneOfEach.{found_block}
use Rattle.ssd_histories.proofs.UsedSlots.{block_is, made}
use Rattle.serial_laws.proofs.LookLists.{is_end_kind}
use Rattle.history_laws.proofs.Counting.{count_set, one_false, one_true}
use Rattle.history_laws.proofs.KeptReserve.{blocks_after_next, is_victim_of, next_is_used}
use Rattle.history_laws.proofs.LivePages.{live_after, live_lost}
use Rattle.history_laws.proofs.ProgrammedBlocks.{FitsVictim, IsUsedNext, after_next, copy_keeps_reserve, free_is_reserve, host_leaves_free, reserve_over, reserve_parts, reserve_with_less}
use Rattle.history_laws.proofs.VictimPages.{copies_take_pages, victims_gain_no_pages}
use Rattle.round_bounds.proofs.BadBlocks.{stands_in_list}
use Rattle.round_bounds.proofs.VictimSteps.{pick_makes_victim}
use Rattle.ssd_histories.proofs.ReserveLaws.{sealed_isnt_free}
use Rattle.shared_lemmas.proofs.Positions.{place-same}

-- the live pages of each superblock, and one more
abbrev one_more_live : List Row → ℕ → ℕ
one_more_live rows sb = live_in rows sb + 1

-- the victim has fewer live pages than slots, and fewer than the frontier has left where no superblock is free
pub record HasSpare (slots : ℕ) (blocks : List BlockBase) (rows : List Row) : Type 0 where
  pub sb : ℕ
  pub is_victim : Blocks.victim_in blocks ≡ Some sb
  pub few : live_in rows sb < slots
  pub reserve : reserve_over slots blocks (one_more_live rows) ≡ true

-- ---- a pick

-- a candidate has fewer live pages than slots
candidate_has_garbage : (base : ChannelBase) (past : List Entry) (sb : ℕ) → sb < base.shape.superblocks →
    has_garbage base past sb ≡ true → live_of base past sb < slots_in base
candidate_has_garbage base past sb low is =
    let blocks : List BlockBase = blocks_of base past in
    let told : ℕ → SbInfo = Policies.info_of (slots_in base) blocks (rows_of base past) (open_looks past) in
    let info : get_or (table_of base past) sb Policies.no_info ≡ told sb =
    get_or-map-range_with_len told 0 (length blocks) sb sb Policies.no_info (stands_in_list base past sb low) (omega arith) in
    ltb-true (live_in (rows_of base past) sb) (slots_in base)
    (and_parts (States.is_sealed (Blocks.block_at blocks sb).state) (nat_lt (live_in (rows_of base past) sb) (slots_in base))
    (subst (λ (info : SbInfo). Policies.is_candidate info ≡ true) info is)).1

at_least_one : (n : ℕ) → nat_le 1 n ≡ true → 1 ≤ n
at_least_one n e = grind (arith, nat_tests)

pub spare_from_pick : (ladder : List Entry → ℕ → LadderState) (base : ChannelBase) (past : List Entry) (tag : Tag) (sb : ℕ) →
    IsLawfulBy ladder base (made tag (Kind.Pick sb) ∷ past) →
    HasSpare (slots_in base) (blocks_of base (made tag (Kind.Pick sb) ∷ past)) (rows_of base (made tag (Kind.Pick sb) ∷ past))
spare_from_pick ladder base past tag sb lawful =
    let low : sb < base.shape.superblocks = ltb-true sb base.shape.superblocks lawful.1.in_range in
    let blocks : List BlockBase = blocks_of base past in
    let victim : BlockBase = Blocks.victim_block (Blocks.block_at blocks sb) in
    let closed : Blocks.is_free_block (Blocks.block_at blocks sb) ≡ false =
    sealed_isnt_free (Blocks.block_at blocks sb).state (candidate_sealed base past sb low lawful.1.meets.is_candidate) in
    let some : 1 ≤ Blocks.free_blocks_in (Blocks.with_victim blocks sb) =
    omega (
      arith,
      at_least_one (Blocks.free_blocks_in blocks) lawful.1.meets.has_free,
      count_set Blocks.is_free_block blocks sb victim Blocks.blank_block (stands_in_list base past sb low),
      one_false (Blocks.is_free_block (Blocks.block_at blocks sb)) closed,
      one_false (Blocks.is_free_block victim) refl,
    ) in
    record {
      sb = sb;
      is_victim = pick_makes_victim ladder base past tag sb lawful;
      few = candidate_has_garbage base past sb low lawful.1.meets.is_candidate;
      reserve = free_is_reserve (slots_in base) (blocks_of base (made tag (Kind.Pick sb) ∷ past))
          (one_more_live (rows_of base past))
          (subst (λ (list : List BlockBase). 1 ≤ Blocks.free_blocks_in list)
          (sym (blocks_after_entry ladder base (made tag (Kind.Pick sb)) past lawful)) some);
    }

-- ---- the entries of a copy

-- a copy that is programmed takes one slot, and one page from the victim where the host has no room
spare_after_move : (ladder : List Entry → ℕ → LadderState) (base : ChannelBase) (past : List Entry) (tag : Tag) (at : ℕ)
    (slot : Slot) → IsLawfulBy ladder base (made tag (Kind.Move at slot) ∷ past) →
    HasSpare (slots_in base) (blocks_of base past) (rows_of base past) →
    HasSpare (slots_in base) (blocks_of base (made tag (Kind.Move at slot) ∷ past))
    (rows_of base (made tag (Kind.Move at slot) ∷ past))
spare_after_move ladder base past tag at slot lawful spare = by_look (open_look past tag at) refl lawful.1.meets
  where
    entry : Entry
    entry = made tag (Kind.Move at slot)

    slots : ℕ
    slots = slots_in base

    no_more : live_of base (entry ∷ past) spare.sb ≤ live_of base past spare.sb
    no_more = victims_gain_no_pages ladder base entry past spare.sb lawful spare.is_victim

    by_look : (o : Option Look) → open_look past tag at ≡ o →
        IsSomeAnd o (λ look. IsLawfulMove (ladder past at) base past look slot) →
        HasSpare slots (blocks_of base (entry ∷ past)) (rows_of base (entry ∷ past))
    by_look None is c = absurd c
    by_look (Some look) is c =
        record {
          sb = spare.sb;
          is_victim = ap {B = Option ℕ} Blocks.victim_in after ∙ next.victim ∙ spare.is_victim;
          few = omega (arith, no_more, spare.few);
          reserve =
              subst
              (λ (blocks : List BlockBase). reserve_over slots blocks (one_more_live (rows_of base (entry ∷ past))) ≡ true)
              (sym after)
              (by_room (or_cases (has_host_room base past) (is_victim_now base past look.slot.sb) c.may_copy.has_room));
        }
      where
        after : blocks_of base (entry ∷ past) ≡ after_next slots (blocks_of base past) slot.sb
        after =
            blocks_after_next base past entry slot c.is_programmed.is_next (blocks_after_entry ladder base entry past lawful)

        next : IsUsedNext slots (blocks_of base past) slot.sb
        next = next_is_used base past slot c.is_programmed.is_next

        same : (a b : ℕ) → ◌≡◌ {A = Option ℕ} (Some a) (Some b) → a ≡ b
        same a b e = ap {B = ℕ} (λ (o : Option ℕ). unwrap_or o a) e

        by_room : (has_host_room base past ≡ true) ⊎ (is_victim_now base past look.slot.sb ≡ true) →
            reserve_over slots (after_next slots (blocks_of base past) slot.sb) (one_more_live (rows_of base (entry ∷ past)))
            ≡ true
        by_room (inl room) =
            free_is_reserve slots (after_next slots (blocks_of base past) slot.sb) (one_more_live (rows_of base (entry ∷ past)))
            (host_leaves_free slots (blocks_of base past) slot.sb next room)
        by_room (inr here) =
            let stands : look.slot.sb ≡ spare.sb =
            same look.slot.sb spare.sb (sym (is_victim_of base past look.slot.sb here) ∙ spare.is_victim) in
            let inside : IsSomeAnd (open_look past tag at) (λ other. other.slot.sb ≡ spare.sb) =
            subst (λ (o : Option Look). IsSomeAnd o (λ other. other.slot.sb ≡ spare.sb)) (sym is) stands in
            copy_keeps_reserve slots (blocks_of base past) slot.sb spare.sb (one_more_live (rows_of base past))
            (one_more_live (rows_of base (entry ∷ past))) next spare.is_victim (omega (arith, spare.few))
            (omega (arith, copies_take_pages ladder base past tag at spare.sb slot lawful spare.is_victim inside))
            spare.reserve

-- a page that is lost leaves the victim no more
spare_after_loss : (base : ChannelBase) (past : List Entry) (tag : Tag) (at : ℕ) →
    HasSpare (slots_in base) (blocks_of base past) (rows_of base past) →
    HasSpare (slots_in base) (blocks_of base (made tag (Kind.Condemn at) ∷ past))
    (rows_of base (made tag (Kind.Condemn at) ∷ past))
spare_after_loss base past tag at spare =
    record {
      sb = spare.sb;
      is_victim = spare.is_victim;
      few = omega (arith, fewer spare.sb, spare.few);
      reserve =
          reserve_with_less (slots_in base) (blocks_of base past) (one_more_live (rows_of base past))
          (one_more_live (rows_of base (made tag (Kind.Condemn at) ∷ past))) (λ sb. omega (arith, fewer sb)) spare.reserve;
    }
  where
    fewer : (sb : ℕ) → live_of base (made tag (Kind.Condemn at) ∷ past) sb ≤ live_of base past sb
    fewer sb = omega (
      arith,
      live_after base (made tag (Kind.Condemn at)) past sb,
      live_lost (look_of past at) (rows_of base past) sb,
    )

-- so an entry of a copy leaves the spare slots, unless a program failed in it
pub spare_stays : (ladder : List Entry → ℕ → LadderState) (base : ChannelBase) (past : List Entry) (tag : Tag) (kind : Kind) →
    IsLawfulBy ladder base (made tag kind ∷ past) → is_end_kind kind ≡ true → is_bad_kind kind ≡ false →
    HasSpare (slots_in base) (blocks_of base past) (rows_of base past) →
    HasSpare (slots_in base) (blocks_of base (made tag kind ∷ past)) (rows_of base (made tag kind ∷ past))
spare_stays ladder base past tag (Kind.FaultSense at place level) lawful is good spare = spare
spare_stays ladder base past tag (Kind.Move at slot) lawful is good spare =
    spare_after_move ladder base past tag at slot lawful spare
spare_stays ladder base past tag (Kind.Changed at found) lawful is good spare = spare
spare_stays ladder base past tag (Kind.Stay at worn) lawful is good spare = spare
spare_stays ladder base past tag (Kind.Condemn at) lawful is good spare = spare_after_loss base past tag at spare
spare_stays ladder base past tag (Kind.BadCopy at slot die fault) lawful is good spare = absurd (false≢true (sym good))
spare_stays ladder base past tag kind lawful is good spare = absurd (false≢true is)

-- ---- an erase

victim_isnt_free : (state : SbState) → States.is_victim state ≡ true → States.is_free state ≡ false
victim_isnt_free SbState.Free e = absurd (false≢true e)
victim_isnt_free state e = refl

-- where a superblock was free, or the frontier has a slot left, the host has room once one more is free
room_by : (frontier : Option ℕ) (free : ℕ) → (2 ≤ free) ⊎ ((is_some frontier ≡ true) × (1 ≤ free)) →
    (is_some frontier && nat_le 1 free || nat_le 2 free) ≡ true
room_by frontier free (inl some) = or_right (is_some frontier && nat_le 1 free) (nat_le 2 free) (two free some)
  where
    two : (n : ℕ) → 2 ≤ n → nat_le 2 n ≡ true
    two n h = grind (arith, nat_tests)
room_by frontier free (inr both) =
    or_left (is_some frontier && nat_le 1 free) (nat_le 2 free) (rw (both.0, first free both.1) refl)
  where
    first : (n : ℕ) → 1 ≤ n → nat_le 1 n ≡ true
    first n h = grind (arith, nat_tests)

some_frontier : (slots : ℕ) (blocks : List BlockBase) → 1 ≤ Blocks.slots_left slots blocks →
    is_some (Blocks.frontier_of blocks) ≡ true
some_frontier slots blocks left = by_frontier (Blocks.frontier_of blocks) refl
  where
    by_frontier : (o : Option ℕ) → Blocks.frontier_of blocks ≡ o → is_some o ≡ true
    by_frontier (Some k) is = refl
    by_frontier None is =
        let none : Blocks.slots_left slots blocks ≡ 0 = ap {B = ℕ} (Blocks.left_in slots blocks) is in
        absurd (omega (arith, left, none))

pub erase_leaves_room : (ladder : List Entry → ℕ → LadderState) (base : ChannelBase) (past : List Entry) (tag : Tag) (sb : ℕ) →
    IsLawfulBy ladder base (made tag (Kind.Erase sb) ∷ past) →
    HasSpare (slots_in base) (blocks_of base past) (rows_of base past) →
    has_host_room base (made tag (Kind.Erase sb) ∷ past) ≡ true
erase_leaves_room ladder base past tag sb lawful spare =
    ap {B = Bool} Blocks.blocks_have_room (blocks_after_entry ladder base (made tag (Kind.Erase sb)) past lawful)
    ∙ room_by (Blocks.frontier_of erased) (Blocks.free_blocks_in erased)
    (by_parts (reserve_parts (slots_in base) blocks (one_more_live (rows_of base past)) spare.reserve))
  where
    blocks : List BlockBase
    blocks = blocks_of base past

    block : BlockBase
    block = Blocks.erased_block (Blocks.block_at blocks sb)

    erased : List BlockBase
    erased = Blocks.with_erased blocks sb

    was : (sb < base.shape.superblocks) × (States.is_victim (state_of base past sb) ≡ true)
    was = found_block base past Blocks.is_victim_block sb lawful.1.meets.may_erase.is_victim

    -- the victim is neither free nor the frontier
    not_free : Blocks.is_free_block (Blocks.block_at blocks sb) ≡ false
    not_free = ap {B = Bool} Blocks.is_free_block (block_is base past sb was.0)
        ∙ victim_isnt_free (state_of base past sb) was.1

    not_frontier : Blocks.is_frontier_block (Blocks.block_at blocks sb) ≡ false
    not_frontier = ap {B = Bool} Blocks.is_frontier_block (block_is base past sb was.0)
        ∙ victim_no_frontier (state_of base past sb) was.1

    one_more : Blocks.free_blocks_in erased ≡ Blocks.free_blocks_in blocks + 1
    one_more = omega (
      arith,
      count_set Blocks.is_free_block blocks sb block Blocks.blank_block (stands_in_list base past sb was.0),
      one_false (Blocks.is_free_block (Blocks.block_at blocks sb)) not_free,
      one_true (Blocks.is_free_block block) refl,
    )

    same_frontier : Blocks.frontier_of erased ≡ Blocks.frontier_of blocks
    same_frontier = place-same Blocks.is_frontier_block blocks sb block Blocks.blank_block (sym not_frontier)

    by_parts : (1 ≤ Blocks.free_blocks_in blocks) ⊎ FitsVictim (slots_in base) blocks (one_more_live (rows_of base past)) →
        (2 ≤ Blocks.free_blocks_in erased) ⊎
        ((is_some (Blocks.frontier_of erased) ≡ true) × (1 ≤ Blocks.free_blocks_in erased))
    by_parts (inl some) = inl (omega (arith, some, one_more))
    by_parts (inr fit) =
        inr (
          ap {B = Bool} is_some same_frontier ∙ some_frontier (slots_in base) blocks (omega (arith, fit.fits)),
          omega (arith, one_more),
        )
