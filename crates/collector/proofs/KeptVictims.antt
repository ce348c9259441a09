-- Which steps leave the victim as it is, and which leave the open looks? All of a copy leave the victim; between its look and
-- its leave each leaves the open looks too. A lawful pick makes the superblock that it names the victim.
use Rattle.std.proofs.Common.{◌≡◌, ℕ, zero, suc, ◌+◌, ◌<◌, ◌≤◌, ◌==◌, ◌&&◌, ◌||◌, nat_lt, not, cond, Bool, true, false, List, [], ◌∷◌, ◌++◌, length, map, set, Option, Some, None, refl, sym, ap, subst, ◌∙◌, arith}
use Rattle.std.specs.Prelude.{if◌then◌else◌, position}
use Rattle.std.specs.List.{list_all, list_any, position_or_len, range_with_len}
use Rattle.std.proofs.lemmas.Bool.{and_parts, false≢true, lt-ltb, ltb-true, eqb-true}
use Rattle.std.proofs.lemmas.Bool.Decides.{nat_tests}
use Rattle.std.proofs.lemmas.List.FromFn.{length-map-range_with_len}
use Rattle.ssd_geo.specs.Ladder.{LadderState, is_recovered, is_uncorrectable}
use Rattle.ssd_geo.specs.declared.base.BlockBase.{BlockBase}
use Rattle.ssd_geo.specs.declared.base.ChannelBase.{ChannelBase}
use Rattle.ssd_geo.specs.declared.entry.Entry.{Entry}
use Rattle.ssd_geo.specs.declared.kind.Kind.{Kind}
use Rattle.ssd_geo.specs.declared.look.Look.{Look}
use Rattle.ssd_geo.specs.declared.row.Row.{Row}
use Rattle.ssd_geo.specs.declared.slot.Slot.{Slot}
use Rattle.ssd_geo.specs.declared.superblock.SbState.{SbState}
use Rattle.ssd_geo.specs.declared.tag.Tag.{Tag}
use Rattle.ssd_histories.specs.Blocks.{is_victim_block, victim_block, block_at}
use Rattle.ssd_histories.specs.CallSteps.{CallStep, is_leave_of, is_look_of_page, is_sense_of, position_of}
use Rattle.ssd_histories.specs.Copies.{IsCopy, is_copy_end}
use Rattle.ssd_histories.specs.History.{looks_after, open_look, open_looks}
use Rattle.ssd_histories.specs.Lawful.{IsLawfulBadCopy, IsLawfulBy, IsLawfulKind}
use Rattle.ssd_histories.specs.OpenLooks.{began_at, without_look}
use Rattle.ssd_histories.specs.PastBlocks.{block_before, block_of, blocks_of, is_bad_superblock, is_picked, slots_in, state_by, turns_bad, used_of}
use Rattle.ssd_histories.specs.Ranges.{has_slot, is_in_range}
use Rattle.ssd_histories.specs.Room.{next_slot, victim_of}
use Rattle.ssd_histories.specs.SerialCalls.{AreStepsFrom, entry_of}
use Rattle.ssd_histories.specs.States.{is_bad, is_free, is_frontier, is_victim}
use Rattle.ssd_histories.proofs.BlockSteps.{blocks_after_entry}
use Rattle.ssd_histories.proofs.PinnedWords.{usable_next}
use Rattle.ssd_histories.proofs.UsedSlots.{first_holds, of_some}

-- whether an entry is neither a pick nor an erase
abbrev pub keeps_victim : Kind → Bool
keeps_victim (Kind.Pick sb) = false
keeps_victim (Kind.Erase sb) = false
keeps_victim (Kind.BadErase sb die fault) = false
keeps_victim _ = true

-- a superblock is the victim where it is picked and not bad
unpicked_is_none : (a b : Bool) → is_victim (if a then SbState.Free else if b then SbState.Sealed else SbState.Frontier) ≡ false
unpicked_is_none true b = refl
unpicked_is_none false true = refl
unpicked_is_none false false = refl

victim_by : (bad picked : Bool) (slots used : ℕ) → is_victim (state_by bad picked slots used) ≡ (picked && not bad)
victim_by true true slots used = refl
victim_by true false slots used = refl
victim_by false true slots used = refl
victim_by false false slots used = unpicked_is_none (used == 0) (used == slots)

unpicked : (bad picked : Bool) (slots used : ℕ) → (is_frontier (state_by bad picked slots used) || is_free (state_by bad
    picked slots used)) ≡ true → picked ≡ false
unpicked true true slots used e = absurd (false≢true e)
unpicked true false slots used e = refl
unpicked false true slots used e = absurd (false≢true e)
unpicked false false slots used e = refl

-- a failed program turns bad a superblock that isn't picked
turned_bad : (base : ChannelBase) (past : List Entry) (slot : Slot) → next_slot base past ≡ Some slot →
    has_slot base.shape slot ≡ true →
    (sb : ℕ) (b : Bool) → (slot.sb == sb) ≡ b →
    (is_picked base past sb && not (is_bad (block_before base sb).state || (b || list_any (λ entry. turns_bad sb entry.kind)
    past)))
    ≡ (is_picked base past sb && not (is_bad_superblock base past sb))
turned_bad base past slot next range sb false is = refl
turned_bad base past slot next range sb true is =
    let none : is_picked base past slot.sb ≡ false =
    unpicked (is_bad_superblock base past slot.sb) (is_picked base past slot.sb) (slots_in base) (used_of base past slot.sb)
    (usable_next base past slot next range) in
    let here : is_picked base past sb ≡ false = subst (λ (n : ℕ). is_picked base past n ≡ false) (eqb-true slot.sb sb is) none in
    ap (λ (p : Bool). p && not (is_bad (block_before base sb).state || (true || list_any (λ entry. turns_bad sb entry.kind)
    past))) here
    ∙ sym (ap (λ (p : Bool). p && not (is_bad_superblock base past sb)) here)

-- whether a superblock is picked and not bad
abbrev is_live_pick : ChannelBase → List Entry → ℕ → Bool
is_live_pick base past sb = is_picked base past sb && not (is_bad_superblock base past sb)

pick_stays : (state : ℕ → LadderState) (base : ChannelBase) (past : List Entry) (tag : Tag) (kind : Kind) →
    is_in_range base.shape kind ≡ true →
    IsLawfulKind state base past tag kind → keeps_victim kind ≡ true → (sb : ℕ) →
    is_live_pick base (entry_of tag kind ∷ past) sb ≡ is_live_pick base past sb
pick_stays state base past tag (Kind.Pick named) range c keeps sb = absurd (false≢true keeps)
pick_stays state base past tag (Kind.Erase named) range c keeps sb = absurd (false≢true keeps)
pick_stays state base past tag (Kind.BadErase named die fault) range c keeps sb = absurd (false≢true keeps)
pick_stays state base past tag (Kind.BadWrite named slot die fault) range c keeps sb =
    turned_bad base past slot c.is_failed.is_next
    (middle_holds (nat_lt named base.shape.rows) (has_slot base.shape slot) (nat_lt die base.shape.dies) range) sb (slot.sb ==
    sb) refl
  where
    middle_holds : (a b d : Bool) → (a && b && d) ≡ true → b ≡ true
    middle_holds true true d e = refl
    middle_holds true false d e = absurd (false≢true e)
    middle_holds false true d e = refl
    middle_holds false false d e = absurd (false≢true e)
pick_stays state base past tag (Kind.BadCopy at slot die fault) range c keeps sb =
    turned_bad base past slot
    (of_some (open_look past tag at) (λ look. IsLawfulBadCopy (state at) base past look slot die fault) (λ look copy.
    copy.is_failed.is_next) c)
    (first_holds (has_slot base.shape slot) (nat_lt die base.shape.dies) range) sb (slot.sb == sb) refl
pick_stays state base past tag kind range c keeps sb = refl

-- lists of superblocks that agree on the victim
same_place : (numbers : List ℕ) (f g : ℕ → BlockBase) → ((n : ℕ) → is_victim_block (f n) ≡ is_victim_block (g n)) →
    position_or_len is_victim_block (map f numbers) ≡ position_or_len is_victim_block (map g numbers)
same_place [] f g same = refl
same_place (n ∷ numbers) f g same =
    λ i. cond (not (same n i)) (1 + same_place numbers f g same i) 0

same_victim : (base : ChannelBase) (f g : ℕ → BlockBase) → ((n : ℕ) → is_victim_block (f n) ≡ is_victim_block (g n)) →
    position is_victim_block (map f (range_with_len 0 base.shape.superblocks)) ≡ position is_victim_block (map g
    (range_with_len 0 base.shape.superblocks))
same_victim base f g same =
    let n : ℕ = base.shape.superblocks in
    let places : position_or_len is_victim_block (map f (range_with_len 0 n)) ≡ position_or_len is_victim_block (map g
    (range_with_len 0 n)) =
    same_place (range_with_len 0 n) f g same in
    let lengths : length (map f (range_with_len 0 n)) ≡ length (map g (range_with_len 0 n)) =
    length-map-range_with_len f 0 n ∙ sym (length-map-range_with_len g 0 n) in
    λ i. cond (nat_lt (places i) (lengths i)) (Some (places i)) None

pub victim_stays : (state : ℕ → LadderState) (base : ChannelBase) (past : List Entry) (tag : Tag) (kind : Kind) →
    is_in_range base.shape kind ≡ true →
    IsLawfulKind state base past tag kind → keeps_victim kind ≡ true →
    victim_of base (entry_of tag kind ∷ past) ≡ victim_of base past
victim_stays state base past tag kind range c keeps =
    let after : List Entry = entry_of tag kind ∷ past in
    same_victim base (block_of base after) (block_of base past)
    (λ sb. victim_by (is_bad_superblock base after sb) (is_picked base after sb) (slots_in base) (used_of base after sb)
    ∙ pick_stays state base past tag kind range c keeps sb
    ∙ sym (victim_by (is_bad_superblock base past sb) (is_picked base past sb) (slots_in base) (used_of base past sb)))

-- what stands before a lawful past is lawful
pub lawful_before : (ladder : List Entry → ℕ → LadderState) (base : ChannelBase) (tag : Tag) (before after : List Entry)
    (steps : List CallStep) →
    AreStepsFrom tag before steps after → IsLawfulBy ladder base after → IsLawfulBy ladder base before
lawful_before ladder base tag before after [] are lawful = subst (λ (past : List Entry). IsLawfulBy ladder base past) (sym
    are) lawful
lawful_before ladder base tag before after (step ∷ steps) are lawful =
    (lawful_before ladder base tag (step.entry ∷ before) after steps are.2 lawful).0

pub victim_stays_over : (ladder : List Entry → ℕ → LadderState) (base : ChannelBase) (tag : Tag) (before after : List Entry)
    (steps : List CallStep) →
    AreStepsFrom tag before steps after → IsLawfulBy ladder base after →
    list_all (λ step. keeps_victim step.entry.kind) steps ≡ true →
    victim_of base after ≡ victim_of base before
victim_stays_over ladder base tag before after [] are lawful keeps = ap (victim_of base) (sym are)
victim_stays_over ladder base tag before after (step ∷ steps) are lawful keeps =
    let parts = and_parts (keeps_victim step.entry.kind) (list_all (λ step. keeps_victim step.entry.kind) steps) keeps in
    let here = lawful_before ladder base tag (step.entry ∷ before) after steps are.2 lawful in
    victim_stays_over ladder base tag (step.entry ∷ before) after steps are.2 lawful parts.1
    ∙ victim_stays (ladder before) base before step.entry.tag step.entry.kind here.1.in_range here.1.meets parts.0

-- whether an entry stands between the look and the leave of a copy: it opens no look, ends none, picks and erases nothing
abbrev is_inside : Kind → Bool
is_inside (Kind.Look row found closed) = false
is_inside (Kind.Leave at) = false
is_inside (Kind.Pick sb) = false
is_inside (Kind.Erase sb) = false
is_inside (Kind.BadErase sb die fault) = false
is_inside _ = true

inside_looks : (at : ℕ) (tag : Tag) (kind : Kind) (looks : List (Tag × Look)) → is_inside kind ≡ true →
    looks_after at tag kind looks ≡ looks
inside_looks at tag (Kind.Look row found closed) looks e = absurd (false≢true e)
inside_looks at tag (Kind.Leave named) looks e = absurd (false≢true e)
inside_looks at tag kind looks e = refl

inside_keeps : (kind : Kind) → is_inside kind ≡ true → keeps_victim kind ≡ true
inside_keeps (Kind.Pick sb) e = absurd (false≢true e)
inside_keeps (Kind.Erase sb) e = absurd (false≢true e)
inside_keeps (Kind.BadErase sb die fault) e = absurd (false≢true e)
inside_keeps kind e = refl

sense_inside : (at : ℕ) (kind : Kind) → is_sense_of at kind ≡ true → is_inside kind ≡ true
sense_inside at (Kind.Sense named place level) e = refl
sense_inside at kind e = absurd (false≢true e)

never : (a b : Bool) → (false || (a && false) || (b && false)) ≡ true → ⊥
never true true e = false≢true e
never true false e = false≢true e
never false true e = false≢true e
never false false e = false≢true e

end_inside : (ladder : List Entry → ℕ → LadderState) (at : ℕ) (past : List Entry) (tag : Tag) (kind : Kind) →
    is_copy_end ladder at (record { past = past; entry = entry_of tag kind }) ≡ true → is_inside kind ≡ true
end_inside ladder at past tag (Kind.Look row found closed) e = absurd (never (is_recovered (ladder past at)) (is_uncorrectable
    (ladder past at)) e)
end_inside ladder at past tag (Kind.Leave named) e = absurd (never (is_recovered (ladder past at)) (is_uncorrectable (ladder
    past at)) e)
end_inside ladder at past tag (Kind.Pick sb) e = absurd (never (is_recovered (ladder past at)) (is_uncorrectable (ladder past
    at)) e)
end_inside ladder at past tag (Kind.Erase sb) e = absurd (never (is_recovered (ladder past at)) (is_uncorrectable (ladder past
    at)) e)
end_inside ladder at past tag (Kind.BadErase sb die fault) e = absurd (never (is_recovered (ladder past at)) (is_uncorrectable
    (ladder past at)) e)
end_inside ladder at past tag kind e = refl

page_keeps : (kind : Kind) → is_look_of_page kind ≡ true → keeps_victim kind ≡ true
page_keeps (Kind.Look row found closed) e = refl
page_keeps kind e = absurd (false≢true e)

leave_keeps : (at : ℕ) (kind : Kind) → is_leave_of at kind ≡ true → keeps_victim kind ≡ true
leave_keeps at (Kind.Leave named) e = refl
leave_keeps at kind e = absurd (false≢true e)

-- steps that stand inside a copy
are_inside : (at : ℕ) (senses : List CallStep) → list_all (λ step. is_sense_of at step.entry.kind) senses ≡ true →
    list_all (λ step. is_inside step.entry.kind) senses ≡ true
are_inside at [] are = refl
are_inside at (step ∷ senses) are =
    let parts = and_parts (is_sense_of at step.entry.kind) (list_all (λ step. is_sense_of at step.entry.kind) senses) are in
    rw (sense_inside at step.entry.kind parts.0) (are_inside at senses parts.1)

all_join : (test : Kind → Bool) (xs ys : List CallStep) → list_all (λ step. test step.entry.kind) xs ≡ true →
    list_all (λ step. test step.entry.kind) ys ≡ true → list_all (λ step. test step.entry.kind) (xs ++ ys) ≡ true
all_join test [] ys first second = second
all_join test (step ∷ xs) ys first second =
    let parts = and_parts (test step.entry.kind) (list_all (λ step. test step.entry.kind) xs) first in
    rw parts.0 (all_join test xs ys parts.1 second)

all_keep : (xs : List CallStep) → list_all (λ step. is_inside step.entry.kind) xs ≡ true →
    list_all (λ step. keeps_victim step.entry.kind) xs ≡ true
all_keep [] all = refl
all_keep (step ∷ xs) all =
    let parts = and_parts (is_inside step.entry.kind) (list_all (λ step. is_inside step.entry.kind) xs) all in
    rw (inside_keeps step.entry.kind parts.0) (all_keep xs parts.1)

looks_stay : (tag : Tag) (before after : List Entry) (steps : List CallStep) →
    list_all (λ step. is_inside step.entry.kind) steps ≡ true →
    AreStepsFrom tag before steps after → open_looks after ≡ open_looks before
looks_stay tag before after [] inside are = ap open_looks (sym are)
looks_stay tag before after (step ∷ steps) inside are =
    let parts = and_parts (is_inside step.entry.kind) (list_all (λ step. is_inside step.entry.kind) steps) inside in
    looks_stay tag (step.entry ∷ before) after steps parts.1 are.2
    ∙ inside_looks (length before) step.entry.tag step.entry.kind (open_looks before) parts.0

-- steps that are joined, apart
record AreApart (tag : Tag) (before after : List Entry) (xs ys : List CallStep) : Type 0 where
  between : List Entry
  first : AreStepsFrom tag before xs between
  second : AreStepsFrom tag between ys after

apart : (tag : Tag) (before after : List Entry) (xs ys : List CallStep) → AreStepsFrom tag before (xs ++ ys) after →
    AreApart tag before after xs ys
apart tag before after [] ys are = record { between = before; first = refl; second = are }
apart tag before after (step ∷ xs) ys are =
    let rest = apart tag (step.entry ∷ before) after xs ys are.2 in
    record { between = rest.between; first = (are.0, are.1, rest.first); second = rest.second }

-- one open look, which began at a position
record HasOnly (at : ℕ) (looks : List (Tag × Look)) : Type 0 where
  pin : Tag × Look
  is_only : looks ≡ pin ∷ []
  is_at : pin.1.at ≡ at

opens_one : (at : ℕ) (tag : Tag) (kind : Kind) → is_look_of_page kind ≡ true → HasOnly at (looks_after at tag kind [])
opens_one at tag (Kind.Look row (Row.Page slot serial) closed) e = record {
  pin = (tag, record { at = at; row = row; slot = slot; serial = serial; closed = closed });
  is_only = refl;
  is_at = refl;
}
opens_one at tag (Kind.Look row Row.Empty closed) e = absurd (false≢true e)
opens_one at tag (Kind.Look row Row.Lost closed) e = absurd (false≢true e)
opens_one at tag kind e = absurd (false≢true e)

same_number : (a b c : ℕ) → a ≡ b → (c == b) ≡ true → (a == c) ≡ true
same_number a b c e f = grind (arith, nat_tests)

ends_one : (at position : ℕ) (tag : Tag) (kind : Kind) (looks : List (Tag × Look)) → HasOnly at looks →
    is_leave_of at kind ≡ true → looks_after position tag kind looks ≡ []
ends_one at position tag (Kind.Leave named) looks only e =
    ap (λ (pins : List (Tag × Look)). without_look pins named) only.is_only
    ∙ taken (began_at named only.pin) (same_number only.pin.1.at at named only.is_at e)
  where
    taken : (b : Bool) → b ≡ true → ◌≡◌ {A = List (Tag × Look)} (cond b [] (only.pin ∷ [])) []
    taken true e = refl
    taken false e = absurd (false≢true e)
ends_one at position tag kind looks only e = absurd (false≢true e)

-- what a copy leaves as it is, made upon a past without an open look
pub record LeavesAll (base : ChannelBase) (before after : List Entry) : Type 0 where
  pub none_open : open_looks after ≡ []
  pub same_victim : victim_of base after ≡ victim_of base before

pub copy_leaves : (ladder : List Entry → ℕ → LadderState) (base : ChannelBase) (tag : Tag) (before after : List Entry)
    (steps : List CallStep) (look : CallStep) → IsCopy ladder steps look → AreStepsFrom tag before steps after →
    IsLawfulBy ladder base after → open_looks before ≡ [] → LeavesAll base before after
copy_leaves ladder base tag before after steps look copy are lawful none =
    let middle : List CallStep = copy.is_list.senses ++ copy.ending ∷ [] in
    let end_is : is_inside copy.ending.entry.kind ≡ true =
    end_inside ladder (position_of look) copy.ending.past copy.ending.entry.tag copy.ending.entry.kind copy.ends in
    let inside : list_all (λ step. is_inside step.entry.kind) middle ≡ true =
    all_join is_inside copy.is_list.senses (copy.ending ∷ [])
    (are_inside (position_of look) copy.is_list.senses copy.is_list.are_senses) (rw end_is refl) in
    let whole : AreStepsFrom tag before ((look ∷ middle) ++ copy.leave ∷ []) after =
    subst (λ all. AreStepsFrom tag before all after) copy.is_list.are_steps are in
    let last : AreApart tag before after (look ∷ middle) (copy.leave ∷ []) =
    apart tag before after (look ∷ middle) (copy.leave ∷ []) whole in
    let opened : HasOnly (length before) (open_looks (look.entry ∷ before)) =
    subst (λ (looks : List (Tag × Look)). HasOnly (length before)
    (looks_after (length before) look.entry.tag look.entry.kind looks)) (sym none)
    (opens_one (length before) look.entry.tag look.entry.kind copy.is_list.finds_page) in
    let still : open_looks last.between ≡ open_looks (look.entry ∷ before) =
    looks_stay tag (look.entry ∷ before) last.between middle inside last.first.2 in
    let at : position_of look ≡ length before = ap (λ (past : List Entry). length past) last.first.0 in
    record {
      none_open =
          ap open_looks (sym last.second.2)
          ∙ ends_one (length before) (length last.between) copy.leave.entry.tag copy.leave.entry.kind (open_looks last.between)
          (subst (HasOnly (length before)) (sym still) opened)
          (subst (λ (n : ℕ). is_leave_of n copy.leave.entry.kind ≡ true) at copy.is_list.is_left);
      same_victim =
          victim_stays_over ladder base tag before after ((look ∷ middle) ++ copy.leave ∷ []) whole lawful
          (all_join keeps_victim (look ∷ middle) (copy.leave ∷ [])
          (rw (page_keeps look.entry.kind copy.is_list.finds_page) (all_keep middle inside))
          (rw (leave_keeps (position_of look) copy.leave.entry.kind copy.is_list.is_left) refl));
    }

-- the victim that is put into a list without one is the first
none_is_far : (m n : ℕ) → ◌≡◌ {A = Option ℕ} (cond (nat_lt m n) (Some m) None) None → n ≤ m
none_is_far m n e = by_test (nat_lt m n) refl e
  where
    above : nat_lt m n ≡ false → n ≤ m
    above f = grind (arith, nat_tests)

    by_test : (b : Bool) → nat_lt m n ≡ b → ◌≡◌ {A = Option ℕ} (cond b (Some m) None) None → n ≤ m
    by_test true is e = absurd (grind arith)
    by_test false is e = above is

put_first : (blocks : List BlockBase) (sb : ℕ) (victim : BlockBase) → is_victim_block victim ≡ true → sb < length blocks →
    length blocks ≤ position_or_len is_victim_block blocks → position_or_len is_victim_block (set blocks sb victim) ≡ sb
put_first [] sb victim is low none = absurd (omega arith)
put_first (block ∷ blocks) zero victim is low none = rw is refl
put_first (block ∷ blocks) (suc sb) victim is low none =
    by_test (is_victim_block block) refl none (put_first blocks sb victim is (omega (arith, low)))
  where
    by_test : (b : Bool) → is_victim_block block ≡ b →
        suc (length blocks) ≤ cond (not b) (1 + position_or_len is_victim_block blocks) 0 →
        (length blocks ≤ position_or_len is_victim_block blocks → position_or_len is_victim_block (set blocks sb victim) ≡ sb) →
        cond (not (is_victim_block block)) (1 + position_or_len is_victim_block (set blocks sb victim)) 0 ≡ suc sb
    by_test true e far rest = absurd (omega arith)
    by_test false e far rest =
        let there = rest (omega (arith, far)) in
        rw e (omega (arith, there))

length_put : (blocks : List BlockBase) (sb : ℕ) (victim : BlockBase) → length (set blocks sb victim) ≡ length blocks
length_put [] sb victim = refl
length_put (block ∷ blocks) zero victim = refl
length_put (block ∷ blocks) (suc sb) victim = let rest = length_put blocks sb victim in omega (arith, rest)

pub picked_is_victim : (ladder : List Entry → ℕ → LadderState) (base : ChannelBase) (tag : Tag) (sb : ℕ) (past : List Entry) →
    IsLawfulBy ladder base (entry_of tag (Kind.Pick sb) ∷ past) → victim_of base (entry_of tag (Kind.Pick sb) ∷ past) ≡ Some sb
picked_is_victim ladder base tag sb past lawful =
    let blocks : List BlockBase = blocks_of base past in
    let victim : BlockBase = victim_block (block_at blocks sb) in
    let count : length blocks ≡ base.shape.superblocks = length-map-range_with_len (block_of base past) 0
    base.shape.superblocks in
    let low : sb < base.shape.superblocks = ltb-true sb base.shape.superblocks lawful.1.in_range in
    let here : position_or_len is_victim_block (set blocks sb victim) ≡ sb =
    put_first blocks sb victim refl (omega (arith, low, count))
    (none_is_far (position_or_len is_victim_block blocks) (length blocks) lawful.1.meets.no_victim) in
    let long : length (set blocks sb victim) ≡ base.shape.superblocks = length_put blocks sb victim ∙ count in
    ap (position is_victim_block) (blocks_after_entry ladder base (entry_of tag (Kind.Pick sb)) past lawful)
    ∙ (λ i. cond (nat_lt (here i) (long i)) (Some (here i)) None)
    ∙ ap (λ (b : Bool). cond b (Some sb) None) (lt-ltb sb base.shape.superblocks low)
