-- Which entries leave the victim as it is? All but a pick, an erase and a failed erase. A pick makes its superblock the victim,
-- and after an erase or a failed one there is none.
use Rattle.std.proofs.Common.{◌≡◌, ◌≢◌, ℕ, ◌<◌, ◌≤◌, ◌==◌, ◌&&◌, ◌||◌, nat_lt, Bool, true, false, List, [], ◌∷◌, length, set, get_or, refl, ap, sym, ◌∙◌, Option, Some, None, arith}
use Rattle.std.specs.Prelude.{count_by, if◌then◌else◌, position}
use Rattle.std.proofs.lemmas.Bool.{and_parts, false≢true, ltb-true}
use Rattle.std.proofs.lemmas.Bool.Decides.{nat_tests}
use Rattle.std.proofs.lemmas.List.{get_or-set_other, get_or-set_same, get_or_past, length-set}
use Rattle.std.proofs.lemmas.List.Folds.{position_or_len-set}
use Rattle.ssd_geo.specs.Ladder.{LadderState}
use Rattle.ssd_geo.specs.declared.base.BlockBase.{BlockBase}
use Rattle.ssd_geo.specs.declared.base.ChannelBase.{ChannelBase}
use Rattle.ssd_geo.specs.declared.entry.Entry.{Entry}
use Rattle.ssd_geo.specs.declared.kind.Kind.{Kind}
use Rattle.ssd_geo.specs.declared.slot.Slot.{Slot}
use Rattle.ssd_geo.specs.declared.superblock.SbState.{SbState}
use Rattle.ssd_geo.specs.declared.tag.Tag.{Tag}
use Rattle.ssd_histories.specs.BlockLaws.{AtMostOne}
use Rattle.ssd_histories.specs.Blocks as Blocks
use Rattle.ssd_histories.specs.History.{open_look}
use Rattle.ssd_histories.specs.Lawful.{IsLawfulBadCopy, IsLawfulBy, IsLawfulMove}
use Rattle.ssd_histories.specs.PastBlocks.{block_of, blocks_of, slots_in, state_by, state_of}
use Rattle.ssd_histories.specs.Ranges.{has_slot}
use Rattle.ssd_histories.specs.Room.{next_slot, victim_of}
use Rattle.ssd_histories.specs.States as States
use Rattle.ssd_histories.proofs.BlockSteps.{blocks_after_entry, usable_no_victim}
use Rattle.ssd_histories.proofs.OneOfEach.{found_block, one_victim}
use Rattle.ssd_histories.proofs.PinnedWords.{usable_next}
use Rattle.ssd_histories.proofs.UsedSlots.{block_is, made, of_some, slot_in_range}
use Rattle.history_laws.proofs.Counting.{count_set, none_pass, one_false, one_true}
use Rattle.history_laws.proofs.KeptReserve.{blocks_after_next, next_is_used}
use Rattle.round_bounds.proofs.BadBlocks.{stands_in_list}
use Rattle.shared_lemmas.proofs.Positions.{place-new, place-same}

-- ---- entries that leave it

-- whether an entry is neither a pick nor an erase nor a failed erase
abbrev pub leaves_victim : Kind → Bool
leaves_victim (Kind.Pick sb) = false
leaves_victim (Kind.Erase sb) = false
leaves_victim (Kind.BadErase sb die fault) = false
leaves_victim _ = true

-- a program leaves it, and so does one that fails
programmed_leaves : (base : ChannelBase) (past : List Entry) (entry : Entry) (slot : Slot) → next_slot base past ≡ Some slot →
    blocks_of base (entry ∷ past) ≡ Blocks.with_next_used (slots_in base) (blocks_of base past) →
    victim_of base (entry ∷ past) ≡ victim_of base past
programmed_leaves base past entry slot next after =
    ap {B = Option ℕ} Blocks.victim_in (blocks_after_next base past entry slot next after)
    ∙ (next_is_used base past slot next).victim

retired_leaves : (base : ChannelBase) (past : List Entry) (entry : Entry) (slot : Slot) → next_slot base past ≡ Some slot →
    has_slot base.shape slot ≡ true →
    blocks_of base (entry ∷ past) ≡ Blocks.with_retired (blocks_of base past) slot.sb →
    victim_of base (entry ∷ past) ≡ victim_of base past
retired_leaves base past entry slot next range after =
    let none : Blocks.is_victim_block (Blocks.block_at (blocks_of base past) slot.sb) ≡ false =
    ap {B = Bool} Blocks.is_victim_block (block_is base past slot.sb (slot_in_range base.shape slot range))
    ∙ usable_no_victim (state_of base past slot.sb) (usable_next base past slot next range) in
    ap {B = Option ℕ} Blocks.victim_in after
    ∙ place-same Blocks.is_victim_block (blocks_of base past) slot.sb
    (Blocks.retired_block (Blocks.block_at (blocks_of base past) slot.sb)) Blocks.blank_block (sym none)

pub victim_is_left : (ladder : List Entry → ℕ → LadderState) (base : ChannelBase) (past : List Entry) (tag : Tag)
    (kind : Kind) → IsLawfulBy ladder base (made tag kind ∷ past) → leaves_victim kind ≡ true →
    victim_of base (made tag kind ∷ past) ≡ victim_of base past
victim_is_left ladder base past tag (Kind.Write row slot) lawful e =
    programmed_leaves base past (made tag (Kind.Write row slot)) slot lawful.1.meets.is_programmed.is_next
    (blocks_after_entry ladder base (made tag (Kind.Write row slot)) past lawful)
victim_is_left ladder base past tag (Kind.Move at slot) lawful e =
    programmed_leaves base past (made tag (Kind.Move at slot)) slot
    (of_some (open_look past tag at) (λ look. IsLawfulMove (ladder past at) base past look slot)
    (λ look move. move.is_programmed.is_next) lawful.1.meets)
    (blocks_after_entry ladder base (made tag (Kind.Move at slot)) past lawful)
victim_is_left ladder base past tag (Kind.BadWrite row slot die fault) lawful e =
    retired_leaves base past (made tag (Kind.BadWrite row slot die fault)) slot lawful.1.meets.is_failed.is_next
    (and_parts (nat_lt row base.shape.rows) (has_slot base.shape slot)
    (and_parts (nat_lt row base.shape.rows && has_slot base.shape slot) (nat_lt die base.shape.dies) lawful.1.in_range).0).1
    (blocks_after_entry ladder base (made tag (Kind.BadWrite row slot die fault)) past lawful)
victim_is_left ladder base past tag (Kind.BadCopy at slot die fault) lawful e =
    retired_leaves base past (made tag (Kind.BadCopy at slot die fault)) slot
    (of_some (open_look past tag at) (λ look. IsLawfulBadCopy (ladder past at) base past look slot die fault)
    (λ look copy. copy.is_failed.is_next) lawful.1.meets)
    (and_parts (has_slot base.shape slot) (nat_lt die base.shape.dies) lawful.1.in_range).0
    (blocks_after_entry ladder base (made tag (Kind.BadCopy at slot die fault)) past lawful)
victim_is_left ladder base past tag (Kind.Pick sb) lawful e = absurd (false≢true e)
victim_is_left ladder base past tag (Kind.Erase sb) lawful e = absurd (false≢true e)
victim_is_left ladder base past tag (Kind.BadErase sb die fault) lawful e = absurd (false≢true e)
victim_is_left ladder base past tag kind lawful e = refl

-- ---- a pick makes one

pub pick_makes_victim : (ladder : List Entry → ℕ → LadderState) (base : ChannelBase) (past : List Entry) (tag : Tag) (sb : ℕ) →
    IsLawfulBy ladder base (made tag (Kind.Pick sb) ∷ past) → victim_of base (made tag (Kind.Pick sb) ∷ past) ≡ Some sb
pick_makes_victim ladder base past tag sb lawful =
    let blocks : List BlockBase = blocks_of base past in
    ap {B = Option ℕ} Blocks.victim_in (blocks_after_entry ladder base (made tag (Kind.Pick sb)) past lawful)
    ∙ place-new Blocks.is_victim_block blocks sb (Blocks.victim_block (Blocks.block_at blocks sb)) Blocks.blank_block
    (stands_in_list base past sb (ltb-true sb base.shape.superblocks lawful.1.in_range)) lawful.1.meets.no_victim refl

-- ---- an erase takes it away

-- of two items that pass, where one is counted, both are the same
one_passes : {X : Type 0} (p : X → Bool) (xs : List X) (a b : ℕ) (d : X) → p d ≡ false → count_by p xs ≤ 1 →
    p (get_or xs a d) ≡ true → p (get_or xs b d) ≡ true → a ≡ b
one_passes p xs a b d none few first second = by_test (a == b) refl
  where
    apart : true ≡ false → ⊥
    apart e = grind arith

    within : (i : ℕ) → p (get_or xs i d) ≡ true → i < length xs
    within i passes = by_order (nat_lt i (length xs)) refl
      where
        is_below : nat_lt i (length xs) ≡ true → i < length xs
        is_below e = grind (arith, nat_tests)

        is_past : nat_lt i (length xs) ≡ false → length xs ≤ i
        is_past e = grind (arith, nat_tests)

        by_order : (t : Bool) → nat_lt i (length xs) ≡ t → i < length xs
        by_order true e = is_below e
        by_order false e =
            absurd (apart (sym passes ∙ ap {B = Bool} p (get_or_past xs i d (is_past e)) ∙ none))

    same : (a == b) ≡ true → a ≡ b
    same e = grind (arith, nat_tests)

    differ : (a == b) ≡ false → b ≢ a
    differ e = grind (arith, nat_tests)

    -- without the first none is counted, and the second stands there still
    without : (a == b) ≡ false → p (get_or xs b d) ≡ false
    without e =
        let other : b ≢ a = differ e in
        let nothing : count_by p (set xs a d) ≡ 0 =
        omega (
          arith,
          few,
          count_set p xs a d d (within a first),
          one_true (p (get_or xs a d)) first,
          one_false (p d) none,
        ) in
        ap {B = Bool} p (sym (get_or-set_other xs a b d d other))
        ∙ none_pass p (set xs a d) b d nothing (rw length-set (within b second))

    by_test : (t : Bool) → (a == b) ≡ t → a ≡ b
    by_test true e = same e
    by_test false e = absurd (apart (sym second ∙ without e))

-- a channel begins with at most one victim
victim_at_start : (bad picked : Bool) (slots used : ℕ) → States.is_victim (state_by bad picked slots used) ≡ true →
    picked ≡ true
victim_at_start true picked slots used e = absurd (false≢true e)
victim_at_start false true slots used e = refl
victim_at_start false false slots used e = absurd (by_tests (used == 0) (used == slots) e)
  where
    by_tests : (a b : Bool) →
        States.is_victim (if a then SbState.Free else if b then SbState.Sealed else SbState.Frontier) ≡ true → ⊥
    by_tests true b e = false≢true e
    by_tests false true e = false≢true e
    by_tests false false e = false≢true e

starts_have_one : (base : ChannelBase) → Blocks.AreSound (slots_in base) base.blocks → AtMostOne States.is_victim base []
starts_have_one base sound a b low_a low_b first second =
    one_passes Blocks.is_victim_block base.blocks a b Blocks.blank_block refl sound.one_victim
    (picked a first) (picked b second)
  where
    picked : (sb : ℕ) → States.is_victim (state_of base [] sb) ≡ true →
        Blocks.is_victim_block (get_or base.blocks sb Blocks.blank_block) ≡ true
    picked sb e = victim_at_start _ (Blocks.is_victim_block (get_or base.blocks sb Blocks.blank_block)) _ _ e

-- where the victim is made what isn't one, there is none
pub victim_goes : (ladder : List Entry → ℕ → LadderState) (base : ChannelBase) (entry : Entry) (past : List Entry) (sb : ℕ)
    (block : BlockBase) → Blocks.AreSound (slots_in base) base.blocks → IsLawfulBy ladder base (entry ∷ past) →
    victim_of base past ≡ Some sb →
    blocks_of base (entry ∷ past) ≡ set (blocks_of base past) sb block → Blocks.is_victim_block block ≡ false →
    victim_of base (entry ∷ past) ≡ None
victim_goes ladder base entry past sb block sound lawful victim after none =
    by_victim (victim_of base (entry ∷ past)) refl
  where
    apart : true ≡ false → ⊥
    apart e = grind arith

    was : (sb < base.shape.superblocks) × (States.is_victim (state_of base past sb) ≡ true)
    was = found_block base past Blocks.is_victim_block sb victim

    blocks : List BlockBase
    blocks = blocks_of base past

    -- the superblock at a number after the entry
    at_after : (k : ℕ) → k < base.shape.superblocks →
        get_or (set blocks sb block) k Blocks.blank_block ≡ block_of base (entry ∷ past) k
    at_after k low =
        ap {B = BlockBase} (λ (list : List BlockBase). get_or list k Blocks.blank_block) (sym after)
        ∙ block_is base (entry ∷ past) k low

    same : (k : ℕ) → (k == sb) ≡ true → k ≡ sb
    same k e = grind (arith, nat_tests)

    differ : (k : ℕ) → (k == sb) ≡ false → k ≢ sb
    differ k e = grind (arith, nat_tests)

    no_other : (k : ℕ) → k < base.shape.superblocks →
        Blocks.is_victim_block (block_of base (entry ∷ past) k) ≡ true → (t : Bool) → (k == sb) ≡ t → ⊥
    no_other k low is true e =
        let here : k ≡ sb = same k e in
        apart (sym is ∙ ap {B = Bool} Blocks.is_victim_block (sym (at_after k low))
        ∙ ap {B = Bool} (λ (n : ℕ). Blocks.is_victim_block (get_or (set blocks sb block) n Blocks.blank_block)) here
        ∙ ap {B = Bool} Blocks.is_victim_block
        (get_or-set_same blocks sb block Blocks.blank_block (stands_in_list base past sb was.0))
        ∙ none)
    no_other k low is false e =
        let other : k ≢ sb = differ k e in
        let before : States.is_victim (state_of base past k) ≡ true =
        ap {B = Bool} Blocks.is_victim_block
        (sym (block_is base past k low) ∙ sym (get_or-set_other blocks sb k block Blocks.blank_block other)
        ∙ at_after k low)
        ∙ is in
        other (one_victim ladder base past (starts_have_one base sound) lawful.0 k sb low was.0 before was.1)

    by_victim : (o : Option ℕ) → victim_of base (entry ∷ past) ≡ o → o ≡ None
    by_victim None is = refl
    by_victim (Some k) is =
        let found = found_block base (entry ∷ past) Blocks.is_victim_block k is in
        absurd (no_other k found.0 found.1 (k == sb) refl)
