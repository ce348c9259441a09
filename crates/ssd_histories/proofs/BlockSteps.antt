-- The superblocks after one more lawful entry.
use Rattle.std.proofs.Common.{◌≡◌, ℕ, zero, suc, ◌+◌, ◌<◌, ◌==◌, nat_lt, ◌&&◌, ◌||◌, cond, Bool, true, false, List, ◌∷◌, length, map, set, get_or, refl, ap, sym, ◌∙◌, subst, Some, arith}
use Rattle.std.specs.Prelude.{if◌then◌else◌}
use Rattle.std.specs.List.{list_any, range_with_len}
use Rattle.std.proofs.lemmas.Bool.Decides.{nat_tests}
use Rattle.std.proofs.lemmas.List.FromFn.{get_or-map-range_with_len, length-map-range_with_len}
use Rattle.std.proofs.lemmas.List.Sums.{sum_by-cons}
use Rattle.ssd_geo.specs.declared.base.BlockBase.{BlockBase}
use Rattle.ssd_geo.specs.declared.base.ChannelBase.{ChannelBase}
use Rattle.ssd_geo.specs.declared.entry.Entry.{Entry}
use Rattle.ssd_geo.specs.declared.kind.Kind.{Kind}
use Rattle.ssd_geo.specs.declared.slot.Slot.{Slot}
use Rattle.ssd_geo.specs.declared.superblock.SbState.{SbState}
use Rattle.ssd_geo.specs.declared.tag.Tag.{Tag}
use Rattle.ssd_histories.specs.BlockLaws.{BlocksAfterEntry, blocks_after}
use Rattle.ssd_histories.specs.Blocks as Blocks
use Rattle.ssd_histories.specs.History.{open_look, open_looks}
use Rattle.ssd_geo.specs.Ladder.{LadderState}
use Rattle.ssd_histories.specs.Lawful.{IsLawfulKind, IsLawfulMove, IsLawfulBadCopy}
use Rattle.ssd_histories.specs.PastBlocks.{block_before, block_of, blocks_of, erases_of, is_bad_superblock, is_erase_of, is_picked, slots_in, state_by, state_of, turns_bad, used_of}
use Rattle.ssd_histories.specs.Ranges.{has_slot, is_in_range}
use Rattle.ssd_histories.specs.PageMap.{live_in}
use Rattle.ssd_histories.specs.PastRows.{rows_of}
use Rattle.ssd_histories.specs.Policies as Policies
use Rattle.ssd_geo.specs.declared.superblock.SbInfo.{SbInfo}
use Rattle.ssd_histories.specs.Room.{has_garbage, next_slot, table_of, victim_of}
use Rattle.ssd_histories.specs.States as States
use Rattle.ssd_histories.proofs.OneOfEach.{found_block}
use Rattle.ssd_histories.proofs.PinnedWords.{next_sound, slot_block, usable_next}
use Rattle.ssd_histories.proofs.UsedSlots.{block_is, first_holds, made, of_some, second_holds, slot_in_range}
use Rattle.std.proofs.lemmas.Bool.{ltb-true}
use Rattle.shared_lemmas.proofs.Tests.{is_other_above, is_other, same_number}

-- two lists of superblocks that agree above one of them
above_same : (f g : ℕ → BlockBase) (k a n : ℕ) → k < a → ((sb : ℕ) → (k == sb) ≡ false → g sb ≡ f sb) → map g (range_with_len a n) ≡ map f (range_with_len a n)
above_same f g k a zero lt h = refl
above_same f g k a (suc n) lt h = rw (h a (is_other k a lt), above_same f g k (a + 1) n (omega arith) h) refl

-- two lists of superblocks that agree but at one of them
all_but_one : (f g : ℕ → BlockBase) (k a i n : ℕ) (x : BlockBase) → k ≡ a + i → g k ≡ x → ((sb : ℕ) → (k == sb) ≡ false → g sb ≡ f sb)
    → map g (range_with_len a n) ≡ set (map f (range_with_len a n)) i x
all_but_one f g k a i zero x e here h = refl
all_but_one f g k a zero (suc n) x e here h =
    let at : a ≡ k = omega arith in
    let first : g a ≡ x = ap {B = BlockBase} g at ∙ here in
    rw (first, above_same f g k (a + 1) n (omega arith) h) refl
all_but_one f g k a (suc i) (suc n) x e here h =
    rw (h a (is_other_above k a (omega arith)), all_but_one f g k (a + 1) i n x (omega arith) here h) refl

-- the superblocks after a change of one
one_changed : (base : ChannelBase) (past : List Entry) (entry : Entry) (k : ℕ) (x : BlockBase) → block_of base (entry ∷ past) k ≡ x
    → ((sb : ℕ) → (k == sb) ≡ false → block_of base (entry ∷ past) sb ≡ block_of base past sb) → blocks_of base (entry ∷ past) ≡ set (blocks_of base past) k x
one_changed base past entry k x here h =
    all_but_one (block_of base past) (block_of base (entry ∷ past)) k 0 k base.shape.superblocks x (omega arith) here h

-- one more erase of a superblock
one_more_erase : (base : ChannelBase) (past : List Entry) (entry : Entry) (sb : ℕ) → is_erase_of sb entry.kind ≡ true → erases_of base (entry ∷ past) sb ≡ erases_of base past sb + 1
one_more_erase base past entry sb e =
    let one : ◌≡◌ {A = ℕ} (cond (is_erase_of sb entry.kind) 1 0) 1 = ap {B = ℕ} (λ (b : Bool). cond b 1 0) e in
    omega (arith, one, sum_by-cons (λ (other : Entry). cond (is_erase_of sb other.kind) 1 0) entry past)

-- a superblock with its parts
abbrev block : SbState → ℕ → ℕ → BlockBase
block state erases used = record { state = state; erases = erases; used = used }

-- a program's superblock
programmed_state : (slots used : ℕ) → state_by false false slots (used + 1) ≡ (if used + 1 == slots then SbState.Sealed else SbState.Frontier)
programmed_state slots used = ap {B = SbState} (λ (b : Bool). if b then SbState.Free else if used + 1 == slots then SbState.Sealed else SbState.Frontier) (not_empty used)
  where
    not_empty : (n : ℕ) → (n + 1 == 0) ≡ false
    not_empty n = grind (arith, nat_tests)

usable_unpicked : (bad picked : Bool) (slots used : ℕ) → (States.is_frontier (state_by bad picked slots used) || States.is_free (state_by bad picked slots used)) ≡ true → picked ≡ false
usable_unpicked true true slots used e = absurd (grind arith)
usable_unpicked true false slots used e = refl
usable_unpicked false true slots used e = absurd (grind arith)
usable_unpicked false false slots used e = refl

pub usable_no_victim : (state : SbState) → (States.is_frontier state || States.is_free state) ≡ true → States.is_victim state ≡ false
usable_no_victim SbState.Victim e = absurd (grind arith)
usable_no_victim SbState.Free e = refl
usable_no_victim SbState.Frontier e = refl
usable_no_victim SbState.Sealed e = refl
usable_no_victim SbState.Bad e = refl

-- a superblock after an entry that may have programmed it
abbrev if_programmed : Bool → Bool → ℕ → ℕ → ℕ → Bool → BlockBase
if_programmed bad picked slots erases used b = block (state_by bad picked slots (if b then used + 1 else used)) erases (if b then used + 1 else used)

programmed_step : (base : ChannelBase) (past : List Entry) (entry : Entry) (slot : Slot) → next_slot base past ≡ Some slot → has_slot base.shape slot ≡ true
    → ((sb : ℕ) → block_of base (entry ∷ past) sb ≡ if_programmed (is_bad_superblock base past sb) (is_picked base past sb) (slots_in base) (erases_of base past sb) (used_of base past sb) (slot.sb == sb))
    → blocks_of base (entry ∷ past) ≡ Blocks.with_next_used (slots_in base) (blocks_of base past)
programmed_step base past entry slot next range after =
    let blocks : List BlockBase = blocks_of base past in
    let there : Blocks.next_superblock blocks ≡ Some slot.sb = slot_block blocks (Blocks.next_superblock blocks) slot next in
    let within : slot.sb < base.shape.superblocks = slot_in_range base.shape slot range in
    let usable : (States.is_frontier (state_of base past slot.sb) || States.is_free (state_of base past slot.sb)) ≡ true = usable_next base past slot next range in
    let unpicked : is_picked base past slot.sb ≡ false = usable_unpicked (is_bad_superblock base past slot.sb) (is_picked base past slot.sb) (slots_in base) (used_of base past slot.sb) usable in
    let here : if_programmed (is_bad_superblock base past slot.sb) (is_picked base past slot.sb) (slots_in base) (erases_of base past slot.sb) (used_of base past slot.sb) (slot.sb == slot.sb)
    ≡ if_programmed false false (slots_in base) (erases_of base past slot.sb) (used_of base past slot.sb) true =
    λ i. if_programmed (next_sound base past slot next range i) (unpicked i) (slots_in base) (erases_of base past slot.sb) (used_of base past slot.sb) (same_number slot.sb i) in
    let made_it : if_programmed false false (slots_in base) (erases_of base past slot.sb) (used_of base past slot.sb) true ≡ Blocks.with_slot_used (slots_in base) (block_of base past slot.sb) =
    ap {B = BlockBase} (λ (state : SbState). block state (erases_of base past slot.sb) (used_of base past slot.sb + 1)) (programmed_state (slots_in base) (used_of base past slot.sb)) in
    one_changed base past entry slot.sb (Blocks.with_slot_used (slots_in base) (Blocks.block_at blocks slot.sb))
    (after slot.sb ∙ here ∙ made_it ∙ sym (ap {B = BlockBase} (Blocks.with_slot_used (slots_in base)) (block_is base past slot.sb within)))
    (λ sb other. after sb ∙ ap {B = BlockBase} (if_programmed (is_bad_superblock base past sb) (is_picked base past sb) (slots_in base) (erases_of base past sb) (used_of base past sb)) other)
    ∙ sym (ap {B = List BlockBase} (Blocks.used_in (slots_in base) blocks) there)

-- a superblock after an entry that may have retired it, without or with an erase
abbrev if_retired : Bool → Bool → Bool → ℕ → ℕ → ℕ → Bool → BlockBase
if_retired a r picked slots erases used b = block (state_by (a || (b || r)) picked slots used) erases used

bad_now : (a r picked : Bool) (slots erases used : ℕ) → if_retired a r picked slots erases used true ≡ block SbState.Bad erases used
bad_now true r picked slots erases used = refl
bad_now false r picked slots erases used = refl

retired_step : (base : ChannelBase) (past : List Entry) (entry : Entry) (slot : Slot) → next_slot base past ≡ Some slot → has_slot base.shape slot ≡ true
    → ((sb : ℕ) → block_of base (entry ∷ past) sb
    ≡ if_retired (States.is_bad (block_before base sb).state) (list_any (λ other. turns_bad sb other.kind) past) (is_picked base past sb) (slots_in base) (erases_of base past sb) (used_of base past sb) (slot.sb == sb))
    → blocks_of base (entry ∷ past) ≡ Blocks.with_retired (blocks_of base past) slot.sb
retired_step base past entry slot next range after =
    let k : ℕ = slot.sb in
    let within : k < base.shape.superblocks = slot_in_range base.shape slot range in
    let retired : ℕ → Bool → BlockBase = λ sb b. if_retired (States.is_bad (block_before base sb).state) (list_any (λ other. turns_bad sb other.kind) past) (is_picked base past sb) (slots_in base) (erases_of base past sb) (used_of base past sb) b in
    let no_victim : States.is_victim (state_of base past k) ≡ false = usable_no_victim (state_of base past k) (usable_next base past slot next range) in
    let made_it : block SbState.Bad (erases_of base past k) (used_of base past k) ≡ Blocks.retired_block (block_of base past k) =
    sym (ap {B = BlockBase} (λ (b : Bool). block SbState.Bad (erases_of base past k) (if b then 0 else used_of base past k)) no_victim) in
    one_changed base past entry k (Blocks.retired_block (Blocks.block_at (blocks_of base past) k))
    (after k ∙ ap {B = BlockBase} (retired k) (same_number k)
    ∙ bad_now (States.is_bad (block_before base k).state) (list_any (λ other. turns_bad k other.kind) past) (is_picked base past k) (slots_in base) (erases_of base past k) (used_of base past k)
    ∙ made_it ∙ sym (ap {B = BlockBase} Blocks.retired_block (block_is base past k within)))
    (λ sb other. after sb ∙ ap {B = BlockBase} (retired sb) other)

-- the victim isn't bad, and is picked
victim_sound : (bad picked : Bool) (slots used : ℕ) → States.is_victim (state_by bad picked slots used) ≡ true → bad ≡ false
victim_sound true picked slots used e = absurd (grind arith)
victim_sound false picked slots used e = refl

unerased_bad : (a r picked : Bool) (slots erases used : ℕ) → block (state_by (a || (true || r)) picked slots 0) erases 0 ≡ block SbState.Bad erases 0
unerased_bad true r picked slots erases used = refl
unerased_bad false r picked slots erases used = refl

unerased_step : (base : ChannelBase) (past : List Entry) (tag : Tag) (named die : ℕ) (fault : Bool) → victim_of base past ≡ Some named
    → blocks_of base (made tag (Kind.BadErase named die fault) ∷ past) ≡ Blocks.with_retired (blocks_of base past) named
unerased_step base past tag named die fault victim =
    let entry : Entry = made tag (Kind.BadErase named die fault) in
    let found : (named < base.shape.superblocks) × (States.is_victim (state_of base past named) ≡ true) = found_block base past Blocks.is_victim_block named victim in
    let after : ℕ → Bool → BlockBase = λ sb b. block (state_by (States.is_bad (block_before base sb).state || (b || list_any (λ other. turns_bad sb other.kind) past)) (is_picked base past sb) (slots_in base) (if b then 0 else used_of base past sb)) (erases_of base past sb) (if b then 0 else used_of base past sb) in
    let made_it : block SbState.Bad (erases_of base past named) 0 ≡ Blocks.retired_block (block_of base past named) =
    sym (ap {B = BlockBase} (λ (b : Bool). block SbState.Bad (erases_of base past named) (if b then 0 else used_of base past named)) found.1) in
    one_changed base past entry named (Blocks.retired_block (Blocks.block_at (blocks_of base past) named))
    (ap {B = BlockBase} (after named) (same_number named)
    ∙ unerased_bad (States.is_bad (block_before base named).state) (list_any (λ other. turns_bad named other.kind) past) (is_picked base past named) (slots_in base) (erases_of base past named) (used_of base past named)
    ∙ made_it ∙ sym (ap {B = BlockBase} Blocks.retired_block (block_is base past named found.0)))
    (λ sb other. ap {B = BlockBase} (after sb) other)

picked_step : (base : ChannelBase) (past : List Entry) (tag : Tag) (named : ℕ) → named < base.shape.superblocks → is_bad_superblock base past named ≡ false
    → blocks_of base (made tag (Kind.Pick named) ∷ past) ≡ Blocks.with_victim (blocks_of base past) named
picked_step base past tag named lt sound =
    let after : ℕ → Bool → BlockBase = λ sb b. block (state_by (is_bad_superblock base past sb) (if b then true else is_picked base past sb) (slots_in base) (used_of base past sb)) (erases_of base past sb) (used_of base past sb) in
    let made_it : after named true ≡ Blocks.victim_block (block_of base past named) =
    ap {B = BlockBase} (λ (bad : Bool). block (state_by bad true (slots_in base) (used_of base past named)) (erases_of base past named) (used_of base past named)) sound in
    one_changed base past (made tag (Kind.Pick named)) named (Blocks.victim_block (Blocks.block_at (blocks_of base past) named))
    (ap {B = BlockBase} (after named) (same_number named) ∙ made_it ∙ sym (ap {B = BlockBase} Blocks.victim_block (block_is base past named lt)))
    (λ sb other. ap {B = BlockBase} (after sb) other)

-- no more erases of a superblock
no_more_erase : (base : ChannelBase) (past : List Entry) (entry : Entry) (sb : ℕ) → is_erase_of sb entry.kind ≡ false → erases_of base (entry ∷ past) sb ≡ erases_of base past sb
no_more_erase base past entry sb e =
    let none : ◌≡◌ {A = ℕ} (cond (is_erase_of sb entry.kind) 1 0) 0 = ap {B = ℕ} (λ (b : Bool). cond b 1 0) e in
    omega (arith, none, sum_by-cons (λ (other : Entry). cond (is_erase_of sb other.kind) 1 0) entry past)

erased_step : (base : ChannelBase) (past : List Entry) (tag : Tag) (named : ℕ) → victim_of base past ≡ Some named
    → blocks_of base (made tag (Kind.Erase named) ∷ past) ≡ Blocks.with_erased (blocks_of base past) named
erased_step base past tag named victim =
    let entry : Entry = made tag (Kind.Erase named) in
    let found : (named < base.shape.superblocks) × (States.is_victim (state_of base past named) ≡ true) = found_block base past Blocks.is_victim_block named victim in
    let sound : is_bad_superblock base past named ≡ false = victim_sound (is_bad_superblock base past named) (is_picked base past named) (slots_in base) (used_of base past named) found.1 in
    let after : ℕ → ℕ → Bool → BlockBase = λ sb erases b. block (state_by (is_bad_superblock base past sb) (if b then false else is_picked base past sb) (slots_in base) (if b then 0 else used_of base past sb)) erases (if b then 0 else used_of base past sb) in
    let made_it : after named (erases_of base past named + 1) true ≡ Blocks.erased_block (block_of base past named) =
    ap {B = BlockBase} (λ (bad : Bool). block (state_by bad false (slots_in base) 0) (erases_of base past named + 1) 0) sound in
    one_changed base past entry named (Blocks.erased_block (Blocks.block_at (blocks_of base past) named))
    ((λ i. after named (one_more_erase base past entry named (same_number named) i) (same_number named i))
    ∙ made_it ∙ sym (ap {B = BlockBase} Blocks.erased_block (block_is base past named found.0)))
    (λ sb other. λ i. after sb (no_more_erase base past entry sb other i) (other i))

-- a sealed superblock isn't bad
sealed_sound : (bad picked : Bool) (slots used : ℕ) → States.is_sealed (state_by bad picked slots used) ≡ true → bad ≡ false
sealed_sound true picked slots used e = absurd (grind arith)
sealed_sound false picked slots used e = refl

pub candidate_sealed : (base : ChannelBase) (past : List Entry) (sb : ℕ) → sb < base.shape.superblocks → has_garbage base past sb ≡ true
    → States.is_sealed (Blocks.block_at (blocks_of base past) sb).state ≡ true
candidate_sealed base past sb lt e =
    let blocks : List BlockBase = blocks_of base past in
    let info : get_or (table_of base past) sb Policies.no_info ≡ Policies.info_of (slots_in base) blocks (rows_of base past) (open_looks past) sb =
    get_or-map-range_with_len (Policies.info_of (slots_in base) blocks (rows_of base past) (open_looks past)) 0 (length blocks) sb sb Policies.no_info
    (omega (arith, length-map-range_with_len (block_of base past) 0 base.shape.superblocks)) (omega arith) in
    let candidate : Policies.is_candidate (Policies.info_of (slots_in base) blocks (rows_of base past) (open_looks past) sb) ≡ true =
    subst (λ (info : SbInfo). Policies.is_candidate info ≡ true) info e in
    first_holds (States.is_sealed (Blocks.block_at blocks sb).state) (nat_lt (live_in (rows_of base past) sb) (slots_in base)) candidate

candidate_sound : (base : ChannelBase) (past : List Entry) (sb : ℕ) → sb < base.shape.superblocks → has_garbage base past sb ≡ true → is_bad_superblock base past sb ≡ false
candidate_sound base past sb lt e =
    sealed_sound (is_bad_superblock base past sb) (is_picked base past sb) (slots_in base) (used_of base past sb)
    (subst (λ (block : BlockBase). States.is_sealed block.state ≡ true) (block_is base past sb lt) (candidate_sealed base past sb lt e))

blocks_step : (state : ℕ → LadderState) (base : ChannelBase) (past : List Entry) (tag : Tag) (kind : Kind) → is_in_range base.shape kind ≡ true → IsLawfulKind state base past tag kind
    → blocks_of base (made tag kind ∷ past) ≡ blocks_after (slots_in base) kind (blocks_of base past)
blocks_step state base past tag (Kind.Write named slot) range c =
    programmed_step base past (made tag (Kind.Write named slot)) slot c.is_programmed.is_next (second_holds (nat_lt named base.shape.rows) (has_slot base.shape slot) range) (λ sb. refl)
blocks_step state base past tag (Kind.Move at slot) range c =
    programmed_step base past (made tag (Kind.Move at slot)) slot
    (of_some (open_look past tag at) (λ look. IsLawfulMove (state at) base past look slot) (λ look move. move.is_programmed.is_next) c) range (λ sb. refl)
blocks_step state base past tag (Kind.BadWrite named slot die fault) range c =
    retired_step base past (made tag (Kind.BadWrite named slot die fault)) slot c.is_failed.is_next
    (middle_holds (nat_lt named base.shape.rows) (has_slot base.shape slot) (nat_lt die base.shape.dies) range) (λ sb. refl)
  where
    middle_holds : (a b d : Bool) → (a && b && d) ≡ true → b ≡ true
    middle_holds true true d e = refl
    middle_holds true false d e = absurd (grind arith)
    middle_holds false true d e = refl
    middle_holds false false d e = absurd (grind arith)
blocks_step state base past tag (Kind.BadCopy at slot die fault) range c =
    retired_step base past (made tag (Kind.BadCopy at slot die fault)) slot
    (of_some (open_look past tag at) (λ look. IsLawfulBadCopy (state at) base past look slot die fault) (λ look copy. copy.is_failed.is_next) c)
    (first_holds (has_slot base.shape slot) (nat_lt die base.shape.dies) range) (λ sb. refl)
blocks_step state base past tag (Kind.BadErase named die fault) range c = unerased_step base past tag named die fault c.may_erase.is_victim
blocks_step state base past tag (Kind.Pick named) range c =
    picked_step base past tag named (ltb-true named base.shape.superblocks range) (candidate_sound base past named (ltb-true named base.shape.superblocks range) c.is_candidate)
blocks_step state base past tag (Kind.Erase named) range c = erased_step base past tag named c.may_erase.is_victim
blocks_step state base past tag kind range c = refl

pub blocks_after_entry : BlocksAfterEntry
blocks_after_entry ladder base entry past lawful = blocks_step (ladder past) base past entry.tag entry.kind lawful.1.in_range lawful.1.meets

-- the victim isn't the frontier, and neither is a sealed superblock
pub victim_no_frontier : (state : SbState) → States.is_victim state ≡ true → States.is_frontier state ≡ false
victim_no_frontier SbState.Victim e = refl
victim_no_frontier SbState.Frontier e = cc
victim_no_frontier SbState.Free e = refl
victim_no_frontier SbState.Sealed e = refl
victim_no_frontier SbState.Bad e = refl
