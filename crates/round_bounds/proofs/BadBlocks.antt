-- How many superblocks are bad: each failed program and each failed erase makes it one more, and no other entry changes it.
use Rattle.std.proofs.Common.{◌≡◌, ℕ, ◌+◌, ◌<◌, ◌≤◌, ◌&&◌, ◌||◌, nat_lt, Bool, true, false, List, [], ◌∷◌, ◌++◌, length, refl, ap, ◌∙◌, Some, arith}
use Rattle.std.specs.Prelude.{count_by}
use Rattle.std.proofs.lemmas.Bool.{and_parts, false≢true}
use Rattle.std.proofs.lemmas.List.FromFn.{length-map-range_with_len}
use Rattle.std.proofs.lemmas.List.Sums.{count_by-le-length, get_or-le-sum_by, sum_by-cons}
use Rattle.ssd_geo.specs.Ladder.{LadderState}
use Rattle.ssd_geo.specs.declared.base.BlockBase.{BlockBase}
use Rattle.ssd_geo.specs.declared.base.ChannelBase.{ChannelBase}
use Rattle.ssd_geo.specs.declared.entry.Entry.{Entry}
use Rattle.ssd_geo.specs.declared.kind.Kind.{Kind}
use Rattle.ssd_geo.specs.declared.slot.Slot.{Slot}
use Rattle.ssd_geo.specs.declared.superblock.SbState.{SbState}
use Rattle.ssd_geo.specs.declared.tag.Tag.{Tag}
use Rattle.ssd_histories.specs.Blocks as Blocks
use Rattle.ssd_histories.specs.History.{open_look}
use Rattle.ssd_histories.specs.Lawful.{IsLawfulBadCopy, IsLawfulBy}
use Rattle.ssd_histories.specs.PastBlocks.{block_of, blocks_of, state_of}
use Rattle.ssd_histories.specs.Ranges.{has_slot}
use Rattle.ssd_histories.specs.Reserve.{is_bad_kind}
use Rattle.ssd_histories.specs.Room.{count_of_free, next_slot, victim_of}
use Rattle.ssd_histories.specs.States as States
use Rattle.ssd_histories.proofs.BlockSteps.{blocks_after_entry}
use Rattle.ssd_histories.proofs.OneOfEach.{found_block}
use Rattle.ssd_histories.proofs.PinnedWords.{usable_next}
use Rattle.ssd_histories.proofs.UsedSlots.{block_is, made, of_some, slot_in_range}
use Rattle.history_laws.specs.NeverFull.{count_of_bad, is_bad_block}
use Rattle.history_laws.proofs.Counting.{count_set, one, one_false, one_true}
use Rattle.history_laws.proofs.NeverFull.{bad_stays}

-- neither the superblock of the next slot nor the victim is bad
next_isnt_bad : (state : SbState) → (States.is_frontier state || States.is_free state) ≡ true → States.is_bad state ≡ false
next_isnt_bad SbState.Bad e = absurd (false≢true e)
next_isnt_bad state e = refl

victim_isnt_bad : (state : SbState) → States.is_victim state ≡ true → States.is_bad state ≡ false
victim_isnt_bad SbState.Bad e = absurd (false≢true e)
victim_isnt_bad state e = refl

-- a superblock of the channel stands in the list of all
pub stands_in_list : (base : ChannelBase) (past : List Entry) (sb : ℕ) → sb < base.shape.superblocks →
    sb < length (blocks_of base past)
stands_in_list base past sb low = omega (arith, low, length-map-range_with_len (block_of base past) 0 base.shape.superblocks)

-- where a superblock that isn't bad is retired, one more is bad
retired_is_more : (blocks : List BlockBase) (sb : ℕ) → sb < length blocks → is_bad_block (Blocks.block_at blocks sb) ≡ false →
    count_by is_bad_block (Blocks.with_retired blocks sb) ≡ count_by is_bad_block blocks + 1
retired_is_more blocks sb low sound =
    let block : BlockBase = Blocks.retired_block (Blocks.block_at blocks sb) in
    omega (
      arith,
      count_set is_bad_block blocks sb block Blocks.blank_block low,
      one_false (is_bad_block (Blocks.block_at blocks sb)) sound,
      one_true (is_bad_block block) refl,
    )

-- so it is after a failed program, and after a failed erase
program_is_more : (base : ChannelBase) (past : List Entry) (slot : Slot) → next_slot base past ≡ Some slot →
    has_slot base.shape slot ≡ true →
    count_by is_bad_block (Blocks.with_retired (blocks_of base past) slot.sb) ≡ count_of_bad base past + 1
program_is_more base past slot next range =
    let low : slot.sb < base.shape.superblocks = slot_in_range base.shape slot range in
    retired_is_more (blocks_of base past) slot.sb (stands_in_list base past slot.sb low)
    (ap {B = Bool} is_bad_block (block_is base past slot.sb low)
    ∙ next_isnt_bad (state_of base past slot.sb) (usable_next base past slot next range))

erase_is_more : (base : ChannelBase) (past : List Entry) (sb : ℕ) → victim_of base past ≡ Some sb →
    count_by is_bad_block (Blocks.with_retired (blocks_of base past) sb) ≡ count_of_bad base past + 1
erase_is_more base past sb victim =
    let found = found_block base past Blocks.is_victim_block sb victim in
    retired_is_more (blocks_of base past) sb (stands_in_list base past sb found.0)
    (ap {B = Bool} is_bad_block (block_is base past sb found.0) ∙ victim_isnt_bad (state_of base past sb) found.1)

-- an entry of a bad kind makes one more bad
pub bad_is_more : (ladder : List Entry → ℕ → LadderState) (base : ChannelBase) (past : List Entry) (tag : Tag) (kind : Kind) →
    IsLawfulBy ladder base (made tag kind ∷ past) → is_bad_kind kind ≡ true →
    count_of_bad base (made tag kind ∷ past) ≡ count_of_bad base past + 1
bad_is_more ladder base past tag (Kind.BadWrite row slot die fault) lawful bad =
    ap {B = ℕ} (count_by is_bad_block)
    (blocks_after_entry ladder base (made tag (Kind.BadWrite row slot die fault)) past lawful)
    ∙ program_is_more base past slot lawful.1.meets.is_failed.is_next
    (and_parts (nat_lt row base.shape.rows) (has_slot base.shape slot)
    (and_parts (nat_lt row base.shape.rows && has_slot base.shape slot) (nat_lt die base.shape.dies) lawful.1.in_range).0).1
bad_is_more ladder base past tag (Kind.BadCopy at slot die fault) lawful bad =
    ap {B = ℕ} (count_by is_bad_block)
    (blocks_after_entry ladder base (made tag (Kind.BadCopy at slot die fault)) past lawful)
    ∙ program_is_more base past slot
    (of_some (open_look past tag at) (λ look. IsLawfulBadCopy (ladder past at) base past look slot die fault)
    (λ look copy. copy.is_failed.is_next) lawful.1.meets)
    (and_parts (has_slot base.shape slot) (nat_lt die base.shape.dies) lawful.1.in_range).0
bad_is_more ladder base past tag (Kind.BadErase sb die fault) lawful bad =
    ap {B = ℕ} (count_by is_bad_block)
    (blocks_after_entry ladder base (made tag (Kind.BadErase sb die fault)) past lawful)
    ∙ erase_is_more base past sb lawful.1.meets.may_erase.is_victim
bad_is_more ladder base past tag kind lawful bad = absurd (false≢true bad)

-- any other leaves as many
pub good_is_same : (base : ChannelBase) (entry : Entry) (past : List Entry) → is_bad_kind entry.kind ≡ false →
    count_of_bad base (entry ∷ past) ≡ count_of_bad base past
good_is_same base entry past good = bad_stays base (entry ∷ []) past (rw good refl)

-- so none is bad no more
pub bad_stays_bad : (ladder : List Entry → ℕ → LadderState) (base : ChannelBase) (entry : Entry) (past : List Entry) →
    IsLawfulBy ladder base (entry ∷ past) → count_of_bad base past ≤ count_of_bad base (entry ∷ past)
bad_stays_bad ladder base entry past lawful = by_kind (is_bad_kind entry.kind) refl
  where
    by_kind : (b : Bool) → is_bad_kind entry.kind ≡ b → count_of_bad base past ≤ count_of_bad base (entry ∷ past)
    by_kind true e = omega (arith, bad_is_more ladder base past entry.tag entry.kind lawful e)
    by_kind false e = omega (arith, good_is_same base entry past e)

pub bad_stays_bad_over : (ladder : List Entry → ℕ → LadderState) (base : ChannelBase) (newer past : List Entry) →
    IsLawfulBy ladder base (newer ++ past) → count_of_bad base past ≤ count_of_bad base (newer ++ past)
bad_stays_bad_over ladder base [] past lawful = omega arith
bad_stays_bad_over ladder base (entry ∷ newer) past lawful =
    omega (
      arith,
      bad_stays_bad_over ladder base newer past lawful.0,
      bad_stays_bad ladder base entry (newer ++ past) lawful,
    )

-- there are no more than superblocks
pub bad_at_most : (base : ChannelBase) (past : List Entry) → count_of_bad base past ≤ base.shape.superblocks
bad_at_most base past =
    omega (
      arith,
      count_by-le-length is_bad_block (blocks_of base past),
      length-map-range_with_len (block_of base past) 0 base.shape.superblocks,
    )

-- ---- superblocks that aren't bad

-- tests of which each item passes one at most
counts_fit : {X : Type 0} (p q r : X → Bool) → ((x : X) → one (p x) + one (q x) + one (r x) ≤ 1) → (xs : List X) →
    count_by p xs + count_by q xs + count_by r xs ≤ length xs
counts_fit p q r apart [] = omega arith
counts_fit p q r apart (x ∷ xs) =
    omega (
      arith,
      apart x,
      sum_by-cons (λ x. one (p x)) x xs,
      sum_by-cons (λ x. one (q x)) x xs,
      sum_by-cons (λ x. one (r x)) x xs,
      counts_fit p q r apart xs,
    )

-- whether a superblock is sealed or the victim
abbrev is_filled : BlockBase → Bool
is_filled block = States.is_sealed block.state || States.is_victim block.state

states_are_apart : (state : SbState) →
    one (States.is_bad state) + one (States.is_free state) + one (States.is_sealed state || States.is_victim state) ≤ 1
states_are_apart SbState.Free = omega arith
states_are_apart SbState.Frontier = omega arith
states_are_apart SbState.Sealed = omega arith
states_are_apart SbState.Bad = omega arith
states_are_apart SbState.Victim = omega arith

-- bad and free superblocks, and one that is sealed or the victim, are no more than there are
pub one_is_filled : (base : ChannelBase) (past : List Entry) (sb : ℕ) → sb < base.shape.superblocks →
    (States.is_sealed (state_of base past sb) || States.is_victim (state_of base past sb)) ≡ true →
    count_of_bad base past + count_of_free base past + 1 ≤ base.shape.superblocks
one_is_filled base past sb low filled =
    omega (
      arith,
      counts_fit is_bad_block Blocks.is_free_block is_filled (λ block. states_are_apart block.state) (blocks_of base past),
      get_or-le-sum_by (λ (block : BlockBase). one (is_filled block)) (blocks_of base past) sb Blocks.blank_block
          (stands_in_list base past sb low),
      one_true (is_filled (Blocks.block_at (blocks_of base past) sb))
          (ap {B = Bool} is_filled (block_is base past sb low) ∙ filled),
      length-map-range_with_len (block_of base past) 0 base.shape.superblocks,
    )
