-- The frontier at the start, before the next slot is programmed, and after that.
use Rattle.std.proofs.Common.{◌≡◌, ℕ, zero, suc, ◌+◌, ◌<◌, ◌≤◌, ◌==◌, ◌||◌, cond, Bool, true, false, List, [], ◌∷◌, length}
use Rattle.std.proofs.Common.{get_or, refl, ap, sym, ◌∙◌, subst, Option, Some, None, arith}
use Rattle.std.specs.Prelude.{if◌then◌else◌, position, count_by, unwrap_or}
use Rattle.std.specs.List.{list_all}
use Rattle.std.proofs.lemmas.Bool.Decides.{nat_tests}
use Rattle.std.proofs.lemmas.List.FromFn.{length-map-range_with_len}
use Rattle.std.proofs.lemmas.List.Folds.{list_all_at}
use Rattle.std.proofs.lemmas.List.Sums.{fails_before_first, sum_by-cons, sum_by_more_le}
use Rattle.ssd_histories.specs.BlockLaws.{AtMostOne}
use Rattle.ssd_histories.specs.Blocks as Blocks
use Rattle.ssd_histories.specs.PastBlocks.{block_before, block_of, blocks_of, is_bad_superblock, is_picked, slots_in, state_by}
use Rattle.ssd_histories.specs.PastBlocks.{state_of, used_of}
use Rattle.ssd_histories.specs.Ranges.{has_slot}
use Rattle.ssd_histories.specs.Room.{next_slot}
use Rattle.ssd_histories.specs.Standing.{IsStart}
use Rattle.ssd_histories.specs.Start.{Start}
use Rattle.ssd_histories.specs.States as States
use Rattle.ssd_histories.specs.States.{is_frontier}
use Rattle.ssd_geo.specs.declared.base.BlockBase.{BlockBase}
use Rattle.ssd_geo.specs.declared.base.ChannelBase.{ChannelBase}
use Rattle.ssd_geo.specs.declared.entry.Entry.{Entry}
use Rattle.ssd_geo.specs.declared.kind.Kind.{Kind}
use Rattle.ssd_geo.specs.declared.slot.Slot.{Slot}
use Rattle.ssd_geo.specs.declared.superblock.SbState.{SbState}
use Rattle.ssd_geo.specs.declared.tag.Tag.{Tag}
use Rattle.ssd_histories.proofs.OneOfEach.{found_block}
use Rattle.ssd_histories.proofs.PinnedWords.{next_sound, slot_block, usable_next}
use Rattle.ssd_histories.proofs.UsedSlots.{block_is, made}

-- ---- at the start

-- a superblock with the slots that its state asks has the state that its slots give
state_by_due : (state : SbState) (slots used : ℕ) → 1 ≤ slots → Blocks.has_due_used slots state used ≡ true
    → state_by (States.is_bad state || false) (States.is_victim state) slots used ≡ state
state_by_due SbState.Free slots used some due =
    ap {B = SbState} (λ (b : Bool). if b then SbState.Free else if used == slots then SbState.Sealed else SbState.Frontier) due
state_by_due SbState.Frontier slots used some due =
    let some_used : (used == 0) ≡ false = grind (arith, nat_tests) in
    let not_all : (used == slots) ≡ false = grind (arith, nat_tests) in
    λ i. if some_used i then SbState.Free else if not_all i then SbState.Sealed else SbState.Frontier
state_by_due SbState.Sealed slots used some due =
    let some_used : (used == 0) ≡ false = grind (arith, nat_tests) in
    λ i. if some_used i then SbState.Free else if due i then SbState.Sealed else SbState.Frontier
state_by_due SbState.Bad slots used some due = refl
state_by_due SbState.Victim slots used some due = refl

-- each item passes where all do
passes_at : (p : BlockBase → Bool) (xs : List BlockBase) (i : ℕ) (d : BlockBase) → list_all p xs ≡ true → i < length xs
    → p (get_or xs i d) ≡ true
passes_at p xs i d all lt = by_test (p (get_or xs i d)) (λ e. list_all_at p xs i d lt e)
  where
    by_test : (b : Bool) → (b ≡ false → list_all p xs ≡ false) → b ≡ true
    by_test true h = refl
    by_test false h = absurd (grind (arith, h refl))

pub state_at_start : (start : Start) (sb : ℕ) → IsStart start → sb < start.base.shape.superblocks
    → state_of start.base [] sb ≡ (block_before start.base sb).state
state_at_start start sb is_start lt =
    let block = block_before start.base sb in
    state_by_due block.state (slots_in start.base) block.used is_start.blocks_sound.some_slots
    (passes_at (Blocks.is_due_block (slots_in start.base)) start.base.blocks sb Blocks.blank_block is_start.blocks_sound.due
    (omega (arith, is_start.blocks_count)))

-- an item that passes and one after it are two that are counted
two_counted : {X : Type 0} (p : X → Bool) (x : X) (xs : List X) (j : ℕ) (d : X) → count_by p (x ∷ xs) ≤ 1 → j < length xs
    → p x ≡ true → p (get_or xs j d) ≡ true → ⊥
two_counted p x xs j d one lt here there =
    let first : ◌≡◌ {A = ℕ} (cond (p x) 1 0) 1 = ap {B = ℕ} (λ (b : Bool). cond b 1 0) here in
    let other : ◌≡◌ {A = ℕ} (cond (p (get_or xs j d)) 1 0) 1 = ap {B = ℕ} (λ (b : Bool). cond b 1 0) there in
    omega (arith, first, other, sum_by-cons (λ y. cond (p y) 1 0) x xs, sum_by_more_le (λ y. cond (p y) 1 0) xs j d lt)

-- where at most one item is counted, two that pass are one
only_one : {X : Type 0} (p : X → Bool) (xs : List X) (i j : ℕ) (d : X) → count_by p xs ≤ 1 → i < length xs → j < length xs
    → p (get_or xs i d) ≡ true → p (get_or xs j d) ≡ true → i ≡ j
only_one p [] i j d one lt more here there = absurd (omega arith)
only_one p (x ∷ xs) zero zero d one lt more here there = refl
only_one p (x ∷ xs) zero (suc j) d one lt more here there = absurd (two_counted p x xs j d one (omega arith) here there)
only_one p (x ∷ xs) (suc i) zero d one lt more here there = absurd (two_counted p x xs i d one (omega arith) there here)
only_one p (x ∷ xs) (suc i) (suc j) d one lt more here there =
    let rest : count_by p xs ≤ 1 = omega (arith, sum_by-cons (λ y. cond (p y) 1 0) x xs) in
    ap {B = ℕ} (λ (n : ℕ). suc n) (only_one p xs i j d rest (omega arith) (omega arith) here there)

-- at the start there is at most one frontier
pub one_at_start : (start : Start) → IsStart start → AtMostOne is_frontier start.base []
one_at_start start is_start a b la lb here there =
    only_one Blocks.is_frontier_block start.base.blocks a b Blocks.blank_block is_start.blocks_sound.one_frontier
    (omega (arith, is_start.blocks_count)) (omega (arith, is_start.blocks_count))
    (subst (λ (s : SbState). is_frontier s ≡ true) (state_at_start start a is_start la) here)
    (subst (λ (s : SbState). is_frontier s ≡ true) (state_at_start start b is_start lb) there)

-- ---- what is found of it

-- where no frontier is found, no superblock is one
pub none_is_frontier : (base : ChannelBase) (past : List Entry) (sb : ℕ) → Blocks.frontier_of (blocks_of base past) ≡ None
    → sb < base.shape.superblocks → is_frontier (state_of base past sb) ≡ false
none_is_frontier base past sb e lt =
    subst (λ (block : BlockBase). is_frontier block.state ≡ false) (block_is base past sb lt)
    (all_fail Blocks.is_frontier_block (blocks_of base past) e sb Blocks.blank_block
    (omega (arith, length-map-range_with_len (block_of base past) 0 base.shape.superblocks)))
  where
    all_fail : (p : BlockBase → Bool) (xs : List BlockBase) → position p xs ≡ None → (k : ℕ) (d : BlockBase) → k < length xs
        → p (get_or xs k d) ≡ false
    all_fail p xs e k d lt = fails_before_first p xs k d (grind (arith, e, lt))

-- the one frontier is found
pub frontier_is_found : (base : ChannelBase) (past : List Entry) (sb : ℕ) → AtMostOne is_frontier base past
    → sb < base.shape.superblocks → is_frontier (state_of base past sb) ≡ true
    → Blocks.frontier_of (blocks_of base past) ≡ Some sb
frontier_is_found base past sb one lt here =
    by_place (Blocks.frontier_of (blocks_of base past)) (λ e. none_is_frontier base past sb e lt)
    (λ k e. found_block base past Blocks.is_frontier_block k e)
  where
    by_place : (o : Option ℕ) → (o ≡ None → is_frontier (state_of base past sb) ≡ false)
        → ((k : ℕ) → o ≡ Some k → (k < base.shape.superblocks) × (is_frontier (state_of base past k) ≡ true)) → o ≡ Some sb
    by_place None none found = absurd (grind (arith, none refl))
    by_place (Some k) none found =
        let there : (k < base.shape.superblocks) × (is_frontier (state_of base past k) ≡ true) = found k refl in
        ap {B = Option ℕ} (λ (n : ℕ). Some n) (one k sb there.0 lt there.1 here)

-- the next slot is the frontier's where there is one
pub next_in_frontier : (base : ChannelBase) (past : List Entry) (slot : Slot) (k : ℕ) → next_slot base past ≡ Some slot
    → Blocks.frontier_of (blocks_of base past) ≡ Some k → k ≡ slot.sb
next_in_frontier base past slot k next frontier =
    let blocks : List BlockBase = blocks_of base past in
    let there : Blocks.next_superblock blocks ≡ Some slot.sb = slot_block blocks (Blocks.next_superblock blocks) slot next in
    let first : Blocks.next_superblock blocks ≡ Some k =
    ap {B = Option ℕ} (λ (o : Option ℕ). Blocks.first_some o (Blocks.freshest_of blocks)) frontier in
    ap {B = ℕ} (λ (o : Option ℕ). unwrap_or o k) (sym first ∙ there)

-- ---- after the next slot was written

-- the state of another superblock stays
other_stays : (base : ChannelBase) (past : List Entry) (tag : Tag) (row : ℕ) (slot : Slot) (k : ℕ) → (slot.sb == k) ≡ false
    → state_of base (made tag (Kind.Write row slot) ∷ past) k ≡ state_of base past k
other_stays base past tag row slot k e =
    ap {B = SbState} (λ (b : Bool). state_by (is_bad_superblock base past k) (is_picked base past k) (slots_in base)
    (if b then used_of base past k + 1 else used_of base past k)) e

-- a frontier is the superblock of the slot
pub frontier_is_slots : (base : ChannelBase) (past : List Entry) (tag : Tag) (row : ℕ) (slot : Slot) (k : ℕ)
    → AtMostOne is_frontier base past → next_slot base past ≡ Some slot
    → k < base.shape.superblocks → is_frontier (state_of base (made tag (Kind.Write row slot) ∷ past) k) ≡ true → k ≡ slot.sb
frontier_is_slots base past tag row slot k one next lt here = by_test (slot.sb == k) refl
  where
    same : (a b : ℕ) → (a == b) ≡ true → b ≡ a
    same a b e = grind (arith, nat_tests)

    by_test : (b : Bool) → (slot.sb == k) ≡ b → k ≡ slot.sb
    by_test true e = same slot.sb k e
    by_test false e =
        next_in_frontier base past slot k next
        (frontier_is_found base past k one lt (subst (λ (s : SbState). is_frontier s ≡ true)
        (other_stays base past tag row slot k e) here))

pub one_after_write : (base : ChannelBase) (past : List Entry) (tag : Tag) (row : ℕ) (slot : Slot)
    → AtMostOne is_frontier base past → next_slot base past ≡ Some slot
    → AtMostOne is_frontier base (made tag (Kind.Write row slot) ∷ past)
one_after_write base past tag row slot one next a b la lb here there =
    frontier_is_slots base past tag row slot a one next la here
    ∙ sym (frontier_is_slots base past tag row slot b one next lb there)

-- one more slot of the slot's superblock is used
pub one_more_used : (base : ChannelBase) (past : List Entry) (tag : Tag) (row : ℕ) (slot : Slot)
    → used_of base (made tag (Kind.Write row slot) ∷ past) slot.sb ≡ used_of base past slot.sb + 1
one_more_used base past tag row slot = more slot.sb (used_of base past slot.sb)
  where
    more : (n used : ℕ) → ◌≡◌ {A = ℕ} (if n == n then used + 1 else used) (used + 1)
    more n used = grind (arith, nat_tests)

usable_unpicked : (bad picked : Bool) (slots used : ℕ)
    → (is_frontier (state_by bad picked slots used) || States.is_free (state_by bad picked slots used)) ≡ true → picked ≡ false
usable_unpicked true true slots used e = absurd (grind arith)
usable_unpicked true false slots used e = refl
usable_unpicked false true slots used e = absurd (grind arith)
usable_unpicked false false slots used e = refl

-- that superblock is the frontier where the slot wasn't its last
pub slots_is_frontier : (base : ChannelBase) (past : List Entry) (tag : Tag) (row : ℕ) (slot : Slot)
    → next_slot base past ≡ Some slot → has_slot base.shape slot ≡ true
    → (used_of base past slot.sb + 1 == slots_in base) ≡ false
    → is_frontier (state_of base (made tag (Kind.Write row slot) ∷ past) slot.sb) ≡ true
slots_is_frontier base past tag row slot next range more =
    let picked : is_picked base past slot.sb ≡ false =
    usable_unpicked (is_bad_superblock base past slot.sb) (is_picked base past slot.sb) (slots_in base)
    (used_of base past slot.sb) (usable_next base past slot next range) in
    let state : state_of base (made tag (Kind.Write row slot) ∷ past) slot.sb ≡ state_by false false (slots_in base)
    (used_of base past slot.sb + 1) =
    λ i. state_by (next_sound base past slot next range i) (picked i) (slots_in base)
    (one_more_used base past tag row slot i) in
    rw state (open_state (used_of base past slot.sb) (slots_in base) more)
  where
    open_state : (used slots : ℕ) → (used + 1 == slots) ≡ false → is_frontier (state_by false false slots (used + 1)) ≡ true
    open_state used slots e =
        let some : (used + 1 == 0) ≡ false = grind (arith, nat_tests) in
        λ i. is_frontier (if some i then SbState.Free else if e i then SbState.Sealed else SbState.Frontier)

-- a superblock that is free has no slot used
pub free_has_none : (bad picked : Bool) (slots used : ℕ) → States.is_free (state_by bad picked slots used) ≡ true → used ≡ 0
free_has_none true picked slots used e = absurd (grind arith)
free_has_none false true slots used e = absurd (grind arith)
free_has_none false false slots used e = same used (found (used == 0) (used == slots) e)
  where
    same : (n : ℕ) → (n == 0) ≡ true → n ≡ 0
    same n e = grind (arith, nat_tests)

    found : (a b : Bool) → States.is_free (if a then SbState.Free else if b then SbState.Sealed else SbState.Frontier) ≡ true
        → a ≡ true
    found true b e = refl
    found false true e = absurd (grind arith)
    found false false e = absurd (grind arith)
