-- A lawful history has at most one frontier and one victim: the proofs of the laws of specs/BlockLaws.antt.
use Rattle.std.proofs.Common.{◌≡◌, ℕ, zero, suc, ◌+◌, ◌<◌, ◌≤◌, ◌==◌, nat_lt, not, ◌||◌, cond, Bool, true, false, List, [], ◌∷◌, length, get_or, refl, ap, sym, ◌∙◌, subst, Option, Some, None, arith, ◌⊎◌, inl, inr, true≢false}
use Rattle.std.specs.Prelude.{if◌then◌else◌, position, unwrap_or}
use Rattle.std.specs.List.{list_any, position_or_len, prefix_len}
use Rattle.std.proofs.lemmas.Bool.Decides.{nat_tests}
use Rattle.std.proofs.lemmas.List.FromFn.{length-map-range_with_len}
use Rattle.std.proofs.lemmas.List.Quantifiers.{position-Some}
use Rattle.ssd_geo.specs.declared.base.BlockBase.{BlockBase}
use Rattle.ssd_geo.specs.declared.base.ChannelBase.{ChannelBase}
use Rattle.ssd_geo.specs.declared.entry.Entry.{Entry}
use Rattle.ssd_geo.specs.declared.kind.Kind.{Kind}
use Rattle.ssd_geo.specs.declared.slot.Slot.{Slot}
use Rattle.ssd_geo.specs.declared.superblock.SbState.{SbState}
use Rattle.ssd_geo.specs.declared.tag.Tag.{Tag}
use Rattle.ssd_histories.specs.BlockLaws.{AtMostOne, OneFrontier, OneVictim}
use Rattle.ssd_histories.specs.Blocks as Blocks
use Rattle.ssd_histories.specs.History.{open_look}
use Rattle.ssd_geo.specs.Ladder.{LadderState}
use Rattle.ssd_histories.specs.Lawful.{IsLawfulKind, IsLawfulMove}
use Rattle.ssd_histories.specs.PastBlocks.{block_before, block_of, blocks_of, is_bad_superblock, is_picked, slots_in, state_by, state_of, turns_bad, used_after, used_of}
use Rattle.ssd_histories.specs.Ranges.{has_slot, is_in_range}
use Rattle.ssd_histories.specs.Room.{next_slot}
use Rattle.ssd_histories.specs.States as States
use Rattle.ssd_histories.specs.States.{is_frontier, is_victim}
use Rattle.ssd_histories.proofs.PinnedWords.{slot_block}
use Rattle.ssd_histories.proofs.UsedSlots.{block_is, made, of_some, second_holds}
use Rattle.std.proofs.lemmas.Bool.{eqb-true}
use Rattle.std.proofs.lemmas.Option.{same_Some}

-- what stands before the first item that passes a test doesn't
before_first : {X : Type 0} (p : X → Bool) (xs : List X) (i : ℕ) (d : X) → i < prefix_len (λ x. not (p x)) xs → p (get_or xs i d) ≡ false
before_first p [] i d lt = absurd (omega arith)
before_first p (x ∷ xs) zero d lt = head (p x) lt
  where
    head : (b : Bool) → 0 < cond (not b) (1 + prefix_len (λ y. not (p y)) xs) 0 → b ≡ false
    head true lt = absurd (omega arith)
    head false lt = refl
before_first p (x ∷ xs) (suc i) d lt = before_first p xs i d (tail (p x) lt)
  where
    tail : (b : Bool) → suc i < cond (not b) (1 + prefix_len (λ y. not (p y)) xs) 0 → i < prefix_len (λ y. not (p y)) xs
    tail true lt = absurd (omega arith)
    tail false lt = omega arith

-- where no item is found, none passes
none_found : {X : Type 0} (p : X → Bool) (xs : List X) (i : ℕ) (d : X) → position p xs ≡ None → i < length xs → p (get_or xs i d) ≡ false
none_found p xs i d e lt = before_first p xs i d (omega (arith, past_end (position_or_len p xs) (length xs) e))
  where
    by_test : (b : Bool) (m : ℕ) → ◌≡◌ {A = Option ℕ} (cond b (Some m) None) None → b ≡ false
    by_test true m e = absurd (grind arith)
    by_test false m e = refl

    above : (m n : ℕ) → nat_lt m n ≡ false → n ≤ m
    above m n e = grind (arith, nat_tests)

    past_end : (m n : ℕ) → ◌≡◌ {A = Option ℕ} (cond (nat_lt m n) (Some m) None) None → n ≤ m
    past_end m n e = above m n (by_test (nat_lt m n) m e)

-- no superblock is in a state where none is found in it
no_block : (base : ChannelBase) (past : List Entry) (test : BlockBase → Bool) (sb : ℕ) → position test (blocks_of base past) ≡ None → sb < base.shape.superblocks → test (block_of base past sb) ≡ false
no_block base past test sb e lt =
    subst (λ (block : BlockBase). test block ≡ false) (block_is base past sb lt)
    (none_found test (blocks_of base past) sb Blocks.blank_block e (omega (arith, length-map-range_with_len (block_of base past) 0 base.shape.superblocks)))

-- the superblock that is found in a state is in it
pub found_block : (base : ChannelBase) (past : List Entry) (test : BlockBase → Bool) (sb : ℕ) → position test (blocks_of base past) ≡ Some sb → (sb < base.shape.superblocks) × (test (block_of base past sb) ≡ true)
found_block base past test sb e =
    let parts : (sb < length (blocks_of base past)) × (test (Blocks.block_at (blocks_of base past) sb) ≡ true) =
    (first_part test (blocks_of base past) sb e, (position-Some test (blocks_of base past) sb Blocks.blank_block e).1) in
    let within : sb < base.shape.superblocks = omega (arith, parts.0, length-map-range_with_len (block_of base past) 0 base.shape.superblocks) in
    (within, subst (λ (block : BlockBase). test block ≡ true) (block_is base past sb within) parts.1)
  where
    first_part : (p : BlockBase → Bool) (xs : List BlockBase) (i : ℕ) → position p xs ≡ Some i → i < length xs
    first_part p xs i f = (position-Some p xs i Blocks.blank_block f).0

-- the states that each entry leaves: a frontier was one before, or is the superblock of the slot that was programmed
not_frontier_bad : (picked : Bool) (slots used : ℕ) → is_frontier (state_by true picked slots used) ≡ true → ⊥
not_frontier_bad picked slots used e = grind arith

not_frontier_picked : (bad : Bool) (slots used : ℕ) → is_frontier (state_by bad true slots used) ≡ true → ⊥
not_frontier_picked true slots used e = grind arith
not_frontier_picked false slots used e = grind arith

not_frontier_empty : (bad picked : Bool) (slots : ℕ) → is_frontier (state_by bad picked slots 0) ≡ true → ⊥
not_frontier_empty true picked slots e = grind arith
not_frontier_empty false true slots e = grind arith
not_frontier_empty false false slots e = grind arith

-- whether one of some tests turns a superblock bad
pub frontier_turned : (a r picked : Bool) (slots used : ℕ) → is_frontier (state_by (a || (true || r)) picked slots used) ≡ true → ⊥
frontier_turned true r picked slots used e = not_frontier_bad picked slots used e
frontier_turned false r picked slots used e = not_frontier_bad picked slots used e

-- a superblock is that of the next slot
record IsNextIn (base : ChannelBase) (past : List Entry) (sb : ℕ) : Type 0 where
  slot : Slot
  next : next_slot base past ≡ Some slot
  range : has_slot base.shape slot ≡ true
  here : slot.sb ≡ sb

-- a frontier after a program was one before, or has the slot
programmed_frontier : (base : ChannelBase) (past : List Entry) (sb : ℕ) (slot : Slot) (bad picked : Bool) (slots used : ℕ) (b : Bool) → (slot.sb == sb) ≡ b → next_slot base past ≡ Some slot → has_slot base.shape slot ≡ true
    → is_frontier (state_by bad picked slots (if b then used + 1 else used)) ≡ true → (is_frontier (state_by bad picked slots used) ≡ true) ⊎ IsNextIn base past sb
programmed_frontier base past sb slot bad picked slots used true e next range h = inr (record { slot = slot; next = next; range = range; here = eqb-true slot.sb sb e })
programmed_frontier base past sb slot bad picked slots used false e next range h = inl h

retired_frontier : (a r picked : Bool) (slots used : ℕ) (b : Bool) → is_frontier (state_by (a || (b || r)) picked slots used) ≡ true → is_frontier (state_by (a || r) picked slots used) ≡ true
retired_frontier a r picked slots used true h = absurd (frontier_turned a r picked slots used h)
retired_frontier a r picked slots used false h = h

unerased_frontier : (a r picked : Bool) (slots used : ℕ) (b : Bool) → is_frontier (state_by (a || (b || r)) picked slots (if b then 0 else used)) ≡ true → is_frontier (state_by (a || r) picked slots used) ≡ true
unerased_frontier a r picked slots used true h = absurd (frontier_turned a r picked slots 0 h)
unerased_frontier a r picked slots used false h = h

picked_frontier : (bad picked : Bool) (slots used : ℕ) (b : Bool) → is_frontier (state_by bad (if b then true else picked) slots used) ≡ true → is_frontier (state_by bad picked slots used) ≡ true
picked_frontier bad picked slots used true h = absurd (not_frontier_picked bad slots used h)
picked_frontier bad picked slots used false h = h

erased_frontier : (bad picked : Bool) (slots used : ℕ) (b : Bool) → is_frontier (state_by bad (if b then false else picked) slots (if b then 0 else used)) ≡ true → is_frontier (state_by bad picked slots used) ≡ true
erased_frontier bad picked slots used true h = absurd (not_frontier_empty bad false slots h)
erased_frontier bad picked slots used false h = h

-- whether a superblock was bad at the start, and whether it turned bad in a past
abbrev was_bad : ChannelBase → ℕ → Bool
was_bad base sb = States.is_bad (block_before base sb).state

abbrev turned : List Entry → ℕ → Bool
turned past sb = list_any (λ entry. turns_bad sb entry.kind) past

-- a frontier after an entry was one before, or has the next slot
frontier_from : (state : ℕ → LadderState) (base : ChannelBase) (past : List Entry) (tag : Tag) (kind : Kind) → is_in_range base.shape kind ≡ true → IsLawfulKind state base past tag kind
    → (sb : ℕ) → is_frontier (state_of base (made tag kind ∷ past) sb) ≡ true → (is_frontier (state_of base past sb) ≡ true) ⊎ IsNextIn base past sb
frontier_from state base past tag (Kind.Write named slot) range c sb h =
    programmed_frontier base past sb slot (is_bad_superblock base past sb) (is_picked base past sb) (slots_in base) (used_of base past sb) (slot.sb == sb) refl c.is_programmed.is_next
    (second_holds (nat_lt named base.shape.rows) (has_slot base.shape slot) range) h
frontier_from state base past tag (Kind.Move at slot) range c sb h =
    programmed_frontier base past sb slot (is_bad_superblock base past sb) (is_picked base past sb) (slots_in base) (used_of base past sb) (slot.sb == sb) refl
    (of_some (open_look past tag at) (λ look. IsLawfulMove (state at) base past look slot) (λ look move. move.is_programmed.is_next) c) range h
frontier_from state base past tag (Kind.BadWrite named slot die fault) range c sb h =
    inl (retired_frontier (was_bad base sb) (turned past sb) (is_picked base past sb) (slots_in base) (used_of base past sb) (slot.sb == sb) h)
frontier_from state base past tag (Kind.BadCopy at slot die fault) range c sb h =
    inl (retired_frontier (was_bad base sb) (turned past sb) (is_picked base past sb) (slots_in base) (used_of base past sb) (slot.sb == sb) h)
frontier_from state base past tag (Kind.BadErase named die fault) range c sb h =
    inl (unerased_frontier (was_bad base sb) (turned past sb) (is_picked base past sb) (slots_in base) (used_of base past sb) (named == sb) h)
frontier_from state base past tag (Kind.Pick named) range c sb h =
    inl (picked_frontier (is_bad_superblock base past sb) (is_picked base past sb) (slots_in base) (used_of base past sb) (named == sb) h)
frontier_from state base past tag (Kind.Erase named) range c sb h =
    inl (erased_frontier (is_bad_superblock base past sb) (is_picked base past sb) (slots_in base) (used_of base past sb) (named == sb) h)
frontier_from state base past tag kind range c sb h = inl h

-- where there is a frontier, the next slot is in it
frontier_is_next : (base : ChannelBase) (past : List Entry) (sb : ℕ) → AtMostOne is_frontier base past → IsNextIn base past sb → (b : ℕ) → b < base.shape.superblocks → is_frontier (state_of base past b) ≡ true → sb ≡ b
frontier_is_next base past sb one next b lt h =
    by_frontier (Blocks.frontier_of (blocks_of base past)) refl
    (slot_block (blocks_of base past) (Blocks.next_superblock (blocks_of base past)) next.slot next.next)
  where
    by_frontier : (o : Option ℕ) → Blocks.frontier_of (blocks_of base past) ≡ o → Blocks.first_some (Blocks.frontier_of (blocks_of base past)) (Blocks.freshest_of (blocks_of base past)) ≡ Some next.slot.sb → sb ≡ b
    by_frontier None e there = absurd (true≢false (sym h ∙ no_block base past Blocks.is_frontier_block b e lt))
    by_frontier (Some k) e there =
        let found : (k < base.shape.superblocks) × (is_frontier (state_of base past k) ≡ true) = found_block base past Blocks.is_frontier_block k e in
        let first : ◌≡◌ {A = Option ℕ} (Some k) (Some next.slot.sb) =
        ap {B = Option ℕ} (λ (o : Option ℕ). Blocks.first_some o (Blocks.freshest_of (blocks_of base past))) (sym e) ∙ there in
        sym next.here ∙ sym (same_Some k next.slot.sb first) ∙ one k b found.0 lt found.1 h

one_next : (base : ChannelBase) (past : List Entry) (a b : ℕ) → IsNextIn base past a → IsNextIn base past b → a ≡ b
one_next base past a b first second =
    let same : Some first.slot ≡ Some second.slot = sym first.next ∙ second.next in
    let blocks : first.slot.sb ≡ second.slot.sb = ap {B = ℕ} (λ (o : Option Slot). (unwrap_or o first.slot).sb) same in
    sym first.here ∙ blocks ∙ second.here

-- two frontiers after an entry are one
frontiers_meet : (base : ChannelBase) (past : List Entry) (a b : ℕ) → a < base.shape.superblocks → b < base.shape.superblocks → AtMostOne is_frontier base past
    → (is_frontier (state_of base past a) ≡ true) ⊎ IsNextIn base past a → (is_frontier (state_of base past b) ≡ true) ⊎ IsNextIn base past b → a ≡ b
frontiers_meet base past a b la lb one (inl h) (inl g) = one a b la lb h g
frontiers_meet base past a b la lb one (inl h) (inr g) = sym (frontier_is_next base past b one g a la h)
frontiers_meet base past a b la lb one (inr h) (inl g) = frontier_is_next base past a one h b lb g
frontiers_meet base past a b la lb one (inr h) (inr g) = one_next base past a b h g

pub one_frontier : OneFrontier
one_frontier ladder base [] start lawful = start
one_frontier ladder base (entry ∷ past) start lawful = λ a b la lb h g.
    frontiers_meet base past a b la lb (one_frontier ladder base past start lawful.0)
    (frontier_from (ladder past) base past entry.tag entry.kind lawful.1.in_range lawful.1.meets a h)
    (frontier_from (ladder past) base past entry.tag entry.kind lawful.1.in_range lawful.1.meets b g)

-- a superblock that isn't picked isn't the victim, nor is a bad one
plain_not_victim : (slots used : ℕ) → is_victim (state_by false false slots used) ≡ true → ⊥
plain_not_victim slots used e = by_tests (used == 0) (used == slots) e
  where
    by_tests : (a b : Bool) → is_victim (if a then SbState.Free else if b then SbState.Sealed else SbState.Frontier) ≡ true → ⊥
    by_tests true b e = grind arith
    by_tests false true e = grind arith
    by_tests false false e = grind arith

-- a victim is one whatever slots are used
victim_any : (bad picked : Bool) (slots used other : ℕ) → is_victim (state_by bad picked slots used) ≡ true → is_victim (state_by bad picked slots other) ≡ true
victim_any true picked slots used other e = e
victim_any false true slots used other e = e
victim_any false false slots used other e = absurd (plain_not_victim slots used e)

retired_victim : (a r picked : Bool) (slots used other : ℕ) (b : Bool) → is_victim (state_by (a || (b || r)) picked slots used) ≡ true → is_victim (state_by (a || r) picked slots other) ≡ true
retired_victim true r picked slots used other b e = e
retired_victim false r picked slots used other true e = absurd (bad_victim e)
  where
    bad_victim : false ≡ true → ⊥
    bad_victim f = grind arith
retired_victim false r picked slots used other false e = victim_any r picked slots used other e

unpicked_victim : (bad picked : Bool) (slots used other : ℕ) (b : Bool) → is_victim (state_by bad (if b then false else picked) slots used) ≡ true → is_victim (state_by bad picked slots other) ≡ true
unpicked_victim true picked slots used other b e = e
unpicked_victim false picked slots used other true e = absurd (plain_not_victim slots used e)
unpicked_victim false picked slots used other false e = victim_any false picked slots used other e

-- an entry picks a superblock
abbrev Picks : Kind → ℕ → Type 0
Picks (Kind.Pick named) sb = named ≡ sb
Picks kind sb = ⊥

picked_victim : (bad picked : Bool) (slots used named sb : ℕ) (b : Bool) → (named == sb) ≡ b → is_victim (state_by bad (if b then true else picked) slots used) ≡ true
    → (is_victim (state_by bad picked slots used) ≡ true) ⊎ (named ≡ sb)
picked_victim bad picked slots used named sb true e h = inr (eqb-true named sb e)
picked_victim bad picked slots used named sb false e h = inl h

-- a victim after an entry was one before, or was picked by it
victim_from : (base : ChannelBase) (past : List Entry) (tag : Tag) (kind : Kind) (sb : ℕ) → is_victim (state_of base (made tag kind ∷ past) sb) ≡ true
    → (is_victim (state_of base past sb) ≡ true) ⊎ Picks kind sb
victim_from base past tag (Kind.Write named slot) sb h =
    inl (victim_any (is_bad_superblock base past sb) (is_picked base past sb) (slots_in base) (used_after sb (Kind.Write named slot) (used_of base past sb)) (used_of base past sb) h)
victim_from base past tag (Kind.Move at slot) sb h =
    inl (victim_any (is_bad_superblock base past sb) (is_picked base past sb) (slots_in base) (used_after sb (Kind.Move at slot) (used_of base past sb)) (used_of base past sb) h)
victim_from base past tag (Kind.BadWrite named slot die fault) sb h =
    inl (retired_victim (was_bad base sb) (turned past sb) (is_picked base past sb) (slots_in base) (used_of base past sb) (used_of base past sb) (slot.sb == sb) h)
victim_from base past tag (Kind.BadCopy at slot die fault) sb h =
    inl (retired_victim (was_bad base sb) (turned past sb) (is_picked base past sb) (slots_in base) (used_of base past sb) (used_of base past sb) (slot.sb == sb) h)
victim_from base past tag (Kind.BadErase named die fault) sb h =
    inl (retired_victim (was_bad base sb) (turned past sb) (is_picked base past sb) (slots_in base) (used_after sb (Kind.BadErase named die fault) (used_of base past sb)) (used_of base past sb) (named == sb) h)
victim_from base past tag (Kind.Erase named) sb h =
    inl (unpicked_victim (is_bad_superblock base past sb) (is_picked base past sb) (slots_in base) (used_after sb (Kind.Erase named) (used_of base past sb)) (used_of base past sb) (named == sb) h)
victim_from base past tag (Kind.Pick named) sb h =
    picked_victim (is_bad_superblock base past sb) (is_picked base past sb) (slots_in base) (used_of base past sb) named sb (named == sb) refl h
victim_from base past tag kind sb h = inl h

-- there is no victim where an entry lawfully picks one
pick_alone : (state : ℕ → LadderState) (base : ChannelBase) (past : List Entry) (tag : Tag) (kind : Kind) (a b : ℕ) → IsLawfulKind state base past tag kind → Picks kind a
    → b < base.shape.superblocks → is_victim (state_of base past b) ≡ true → ⊥
pick_alone state base past tag (Kind.Pick named) a b c p lt h = true≢false (sym h ∙ no_block base past Blocks.is_victim_block b c.no_victim lt)
pick_alone state base past tag kind a b c p lt h = p

one_pick : (kind : Kind) (a b : ℕ) → Picks kind a → Picks kind b → a ≡ b
one_pick (Kind.Pick named) a b p q = sym p ∙ q
one_pick kind a b p q = absurd p

victims_meet : (state : ℕ → LadderState) (base : ChannelBase) (past : List Entry) (tag : Tag) (kind : Kind) (a b : ℕ) → IsLawfulKind state base past tag kind → a < base.shape.superblocks → b < base.shape.superblocks
    → AtMostOne is_victim base past → (is_victim (state_of base past a) ≡ true) ⊎ Picks kind a → (is_victim (state_of base past b) ≡ true) ⊎ Picks kind b → a ≡ b
victims_meet state base past tag kind a b c la lb one (inl h) (inl g) = one a b la lb h g
victims_meet state base past tag kind a b c la lb one (inl h) (inr g) = absurd (pick_alone state base past tag kind b a c g la h)
victims_meet state base past tag kind a b c la lb one (inr h) (inl g) = absurd (pick_alone state base past tag kind a b c h lb g)
victims_meet state base past tag kind a b c la lb one (inr h) (inr g) = one_pick kind a b h g

pub one_victim : OneVictim
one_victim ladder base [] start lawful = start
one_victim ladder base (entry ∷ past) start lawful = λ a b la lb h g.
    victims_meet (ladder past) base past entry.tag entry.kind a b lawful.1.meets la lb (one_victim ladder base past start lawful.0)
    (victim_from base past entry.tag entry.kind a h) (victim_from base past entry.tag entry.kind b g)
