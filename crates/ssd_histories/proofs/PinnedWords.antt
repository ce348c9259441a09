-- An open look holds the pages of its superblock fast: the proof of the law of specs/PinnedPages.antt.
use Rattle.std.proofs.Common.{◌≡◌, ℕ, suc, ◌+◌, ◌-◌, ◌*◌, ◌/◌, ◌%◌, ◌<◌, ◌≤◌, ◌==◌, nat_lt, ◌&&◌, ◌||◌, Bool, true, false, List, [], ◌∷◌, length, drop, refl, ap, sym, ◌∙◌, subst, Option, Some, None, arith, All, IsSome}
use Rattle.std.specs.Prelude.{is_some, option_map}
use Rattle.std.specs.List.{list_all}
use Rattle.std.proofs.lemmas.Bool.Decides.{nat_tests}
use Rattle.std.proofs.lemmas.Nat.{div-add-mod'}
use Rattle.std.proofs.lemmas.List.Elements.{All-nil, All-cons, All-append}
use Rattle.std.proofs.lemmas.List.Quantifiers.{position-Some}
use Rattle.ssd_geo.specs.declared.base.BlockBase.{BlockBase}
use Rattle.ssd_geo.specs.declared.base.ChannelBase.{ChannelBase}
use Rattle.ssd_geo.specs.declared.entry.Entry.{Entry}
use Rattle.ssd_geo.specs.declared.kind.Kind.{Kind}
use Rattle.ssd_geo.specs.declared.look.Look.{Look}
use Rattle.ssd_geo.specs.declared.place.Place.{Place}
use Rattle.ssd_geo.specs.declared.row.Row.{Row}
use Rattle.ssd_geo.specs.declared.slot.Slot.{Slot}
use Rattle.ssd_geo.specs.declared.tag.Tag.{Tag}
use Rattle.ssd_histories.specs.Blocks as Blocks
use Rattle.ssd_geo.specs.Coding.{Coding}
use Rattle.ssd_histories.specs.History.{open_look, open_looks}
use Rattle.ssd_geo.specs.Ladder.{LadderState}
use Rattle.ssd_histories.specs.Lawful.{IsLawfulKind, IsLawfulMove, IsLawfulBadCopy}
use Rattle.ssd_histories.specs.LookLaws.{is_erase_or_bad_erase_of}
use Rattle.ssd_histories.specs.PastBlocks.{blocks_of, is_bad_superblock, is_picked, slots_in, state_by, state_of, used_of}
use Rattle.ssd_histories.specs.PastPages.{PageChange, StoredPage, programs, programs_parity, empties, ages, leaves, aged_page, change_by_failed, change_by_program, change_when, page_change, page_of}
use Rattle.ssd_histories.specs.PinnedPages.{KeepsPages, KeepsWord, PinnedPagesStay}
use Rattle.ssd_histories.specs.PlainMap.{past_at}
use Rattle.ssd_histories.specs.Ranges.{has_slot, is_in_range}
use Rattle.ssd_histories.specs.Room.{next_slot}
use Rattle.ssd_histories.specs.Start.{Start}
use Rattle.ssd_histories.specs.States as States
use Rattle.ssd_geo.specs.Stripe.{stripe_of_index}
use Rattle.ssd_histories.proofs.FreshPages.{IsFreshAbove, IsKept, failed_elsewhere, fresh_above, program_elsewhere, two_dies}
use Rattle.ssd_histories.proofs.OpenLookLaws.{all_left}
use Rattle.ssd_histories.proofs.RewrittenRows.{all_by_two, erases_spare_looks}
use Rattle.ssd_histories.proofs.UsedSlots.{Keeps, block_is, first_holds, made, next_is_used, of_some, second_holds, slot_in_range, used_kept}
use Rattle.std.proofs.lemmas.Bool.{or_left, or_right}

-- the next slot's superblock, among all of them
pub slot_block : (blocks : List BlockBase) (o : Option ℕ) (slot : Slot) → Blocks.slot_in blocks o ≡ Some slot → o ≡ Some slot.sb
slot_block blocks None slot e = absurd (grind arith)
slot_block blocks (Some sb) slot e = ap {B = Option ℕ} (option_map (λ (s : Slot). s.sb)) e

-- what is chosen of two is one of them
chosen : (P : Option ℕ → Type 0) (a b : Option ℕ) → P a → P b → P (Blocks.first_some a b)
chosen P None b h g = g
chosen P (Some sb) b h g = h

-- a superblock that is the frontier or free isn't bad
usable_is_sound : (bad picked : Bool) (slots used : ℕ) → (States.is_frontier (state_by bad picked slots used) || States.is_free (state_by bad picked slots used)) ≡ true → bad ≡ false
usable_is_sound true picked slots used e = absurd (grind arith)
usable_is_sound false picked slots used e = refl

-- the superblock of the next slot is the frontier or free
abbrev IsUsable : List BlockBase → Option ℕ → Type 0
IsUsable blocks o = (sb : ℕ) → o ≡ Some sb → (States.is_frontier (Blocks.block_at blocks sb).state || States.is_free (Blocks.block_at blocks sb).state) ≡ true

frontier_usable : (blocks : List BlockBase) → IsUsable blocks (Blocks.frontier_of blocks)
frontier_usable blocks sb e =
    or_left (States.is_frontier (Blocks.block_at blocks sb).state) (States.is_free (Blocks.block_at blocks sb).state)
    (position-Some Blocks.is_frontier_block blocks sb Blocks.blank_block e).1

freshest_usable : (blocks : List BlockBase) → IsUsable blocks (Blocks.freshest_of blocks)
freshest_usable blocks sb e =
    or_right (States.is_frontier (Blocks.block_at blocks sb).state) (States.is_free (Blocks.block_at blocks sb).state)
    (first_holds (States.is_free (Blocks.block_at blocks sb).state) (list_all (Blocks.is_no_fresher (Blocks.block_at blocks sb)) blocks)
    (position-Some (Blocks.is_freshest blocks) blocks sb Blocks.blank_block e).1)

pub usable_next : (base : ChannelBase) (past : List Entry) (slot : Slot) → next_slot base past ≡ Some slot → has_slot base.shape slot ≡ true
    → (States.is_frontier (state_of base past slot.sb) || States.is_free (state_of base past slot.sb)) ≡ true
usable_next base past slot next range =
    let blocks : List BlockBase = blocks_of base past in
    let within : slot.sb < base.shape.superblocks = slot_in_range base.shape slot range in
    let there : Blocks.next_superblock blocks ≡ Some slot.sb = slot_block blocks (Blocks.next_superblock blocks) slot next in
    let usable_there : (States.is_frontier (Blocks.block_at blocks slot.sb).state || States.is_free (Blocks.block_at blocks slot.sb).state) ≡ true =
    chosen (IsUsable blocks) (Blocks.frontier_of blocks) (Blocks.freshest_of blocks) (frontier_usable blocks) (freshest_usable blocks) slot.sb there in
    subst (λ (block : BlockBase). (States.is_frontier block.state || States.is_free block.state) ≡ true) (block_is base past slot.sb within) usable_there

pub next_sound : (base : ChannelBase) (past : List Entry) (slot : Slot) → next_slot base past ≡ Some slot → has_slot base.shape slot ≡ true → is_bad_superblock base past slot.sb ≡ false
next_sound base past slot next range =
    usable_is_sound (is_bad_superblock base past slot.sb) (is_picked base past slot.sb) (slots_in base) (used_of base past slot.sb) (usable_next base past slot next range)

-- a page that isn't programmed is none that is
none_is_none : (page : Option StoredPage) → page ≡ None → IsSome page → ⊥
none_is_none page e some = false_is_true (sym (ap {B = Bool} (λ (o : Option StoredPage). is_some o) e) ∙ some)
  where
    false_is_true : false ≡ true → ⊥
    false_is_true f = grind arith

-- a page under a change that keeps it
word_stays : (base : ChannelBase) (change : PageChange) (a : Option StoredPage) (b : Slot → Option StoredPage) (before : Option StoredPage) → IsKept change → IsSome before
    → KeepsWord before (elim change [
      | programs ↦ a
      | programs_parity slot ↦ b slot
      | empties ↦ None
      | ages amount ↦ option_map (aged_page base amount) before
      | leaves ↦ before
    ])
word_stays base programs a b before kept some = absurd kept
word_stays base (programs_parity slot) a b before kept some = absurd kept
word_stays base empties a b before kept some = absurd kept
word_stays base (ages amount) a b None kept some = record { programmed = some; word = refl }
word_stays base (ages amount) a b (Some page) kept some = record { programmed = refl; word = refl }
word_stays base leaves a b before kept some = record { programmed = some; word = refl }

-- a program of the next slot changes no page that is programmed
program_keeps : (coding : Coding) (start : Start) (contents : List (Tag × List ℕ)) (past : List Entry) (slot : Slot) (place : Place)
    → next_slot start.base past ≡ Some slot → has_slot start.base.shape slot ≡ true → IsFreshAbove coding start contents past slot.sb
    → IsSome (page_of coding start contents past place) → IsKept (change_by_program start.base.shape.dies slot place)
program_keeps coding start contents past slot place next range fresh some =
    program_elsewhere start.base.shape.dies slot place
    (λ e. none_is_none (page_of coding start contents past place)
    (ap {B = Option StoredPage} (page_of coding start contents past) e ∙ fresh.slots slot.index (omega (arith, next_is_used start.base past slot next (slot_in_range start.base.shape slot range)))) some)
    (λ last e. none_is_none (page_of coding start contents past place)
    (ap {B = Option StoredPage} (page_of coding start contents past) e
    ∙ fresh.parities (stripe_of_index start.base.shape.dies slot.index)
    (below (used_of start.base past slot.sb) slot.index (start.base.shape.dies - 1) (next_is_used start.base past slot next (slot_in_range start.base.shape slot range)) (omega (arith, two_dies start)))) some)
  where
    within : (n w : ℕ) → 0 < w → n % w < w
    within n w h = grind arith

    below : (u n w : ℕ) → n ≡ u → 0 < w → u < (n / w + 1) * w
    below u n w e h = omega (arith, e, div-add-mod' n w, within n w h)

-- nor does one that fails
failed_keeps : (coding : Coding) (start : Start) (contents : List (Tag × List ℕ)) (past : List Entry) (slot : Slot) (die : ℕ) (place : Place)
    → next_slot start.base past ≡ Some slot → has_slot start.base.shape slot ≡ true → IsFreshAbove coding start contents past slot.sb
    → IsSome (page_of coding start contents past place) → IsKept (change_by_failed start.base.shape.dies slot die place)
failed_keeps coding start contents past slot die place next range fresh some =
    failed_elsewhere start.base.shape.dies slot die place
    (λ e. none_is_none (page_of coding start contents past place)
    (ap {B = Option StoredPage} (page_of coding start contents past) e ∙ fresh.slots slot.index (omega (arith, next_is_used start.base past slot next (slot_in_range start.base.shape slot range)))) some)

-- what a past has for each superblock that isn't bad
abbrev AreFresh : Coding → Start → List (Tag × List ℕ) → List Entry → Type 0
AreFresh coding start contents past = (sb : ℕ) → sb < start.base.shape.superblocks → is_bad_superblock start.base past sb ≡ false → IsFreshAbove coding start contents past sb

next_fresh : (coding : Coding) (start : Start) (contents : List (Tag × List ℕ)) (past : List Entry) (slot : Slot) → AreFresh coding start contents past
    → next_slot start.base past ≡ Some slot → has_slot start.base.shape slot ≡ true → IsFreshAbove coding start contents past slot.sb
next_fresh coding start contents past slot fresh next range =
    fresh slot.sb (slot_in_range start.base.shape slot range) (next_sound start.base past slot next range)

-- a lawful entry that doesn't erase a superblock keeps each programmed page of it
entry_keeps : (state : ℕ → LadderState) (coding : Coding) (start : Start) (contents : List (Tag × List ℕ)) (past : List Entry) (tag : Tag) (kind : Kind) → is_in_range start.base.shape kind ≡ true
    → IsLawfulKind state start.base past tag kind → AreFresh coding start contents past → (place : Place) → is_erase_or_bad_erase_of place.sb kind ≡ false
    → IsSome (page_of coding start contents past place) → IsKept (page_change start.base.shape.dies kind place)
entry_keeps state coding start contents past tag (Kind.Write named slot) range c fresh place spared some =
    let slot_range : has_slot start.base.shape slot ≡ true = second_holds (nat_lt named start.base.shape.rows) (has_slot start.base.shape slot) range in
    program_keeps coding start contents past slot place c.is_programmed.is_next slot_range
    (next_fresh coding start contents past slot fresh c.is_programmed.is_next slot_range) some
entry_keeps state coding start contents past tag (Kind.Move at slot) range c fresh place spared some =
    let next : next_slot start.base past ≡ Some slot = of_some (open_look past tag at) (λ look. IsLawfulMove (state at) start.base past look slot) (λ look move. move.is_programmed.is_next) c in
    program_keeps coding start contents past slot place next range (next_fresh coding start contents past slot fresh next range) some
entry_keeps state coding start contents past tag (Kind.BadWrite named slot die fault) range c fresh place spared some =
    let slot_range : has_slot start.base.shape slot ≡ true = middle_holds (nat_lt named start.base.shape.rows) (has_slot start.base.shape slot) (nat_lt die start.base.shape.dies) range in
    failed_keeps coding start contents past slot die place c.is_failed.is_next slot_range
    (next_fresh coding start contents past slot fresh c.is_failed.is_next slot_range) some
  where
    middle_holds : (a b d : Bool) → (a && b && d) ≡ true → b ≡ true
    middle_holds true true d e = refl
    middle_holds true false d e = absurd (grind arith)
    middle_holds false true d e = refl
    middle_holds false false d e = absurd (grind arith)
entry_keeps state coding start contents past tag (Kind.BadCopy at slot die fault) range c fresh place spared some =
    let slot_range : has_slot start.base.shape slot ≡ true = first_holds (has_slot start.base.shape slot) (nat_lt die start.base.shape.dies) range in
    let next : next_slot start.base past ≡ Some slot = of_some (open_look past tag at) (λ look. IsLawfulBadCopy (state at) start.base past look slot die fault) (λ look copy. copy.is_failed.is_next) c in
    failed_keeps coding start contents past slot die place next slot_range (next_fresh coding start contents past slot fresh next slot_range) some
entry_keeps state coding start contents past tag (Kind.Erase named) range c fresh place spared some = not_erased named place.sb spared
  where
    when_false : (b : Bool) → b ≡ false → IsKept (change_when b empties)
    when_false true e = absurd (grind arith)
    when_false false e = tt

    turned : (a b : ℕ) → (a == b) ≡ false → (b == a) ≡ false
    turned a b e = grind (arith, nat_tests)

    not_erased : (a b : ℕ) → (a == b) ≡ false → IsKept (change_when (b == a) empties)
    not_erased a b e = when_false (b == a) (turned a b e)
entry_keeps state coding start contents past tag (Kind.BadErase named die fault) range c fresh place spared some = not_erased named place.sb (nat_lt place.die die) spared
  where
    when_false : (b d : Bool) → b ≡ false → IsKept (change_when (b && d) empties)
    when_false true d e = absurd (grind arith)
    when_false false d e = tt

    turned : (a b : ℕ) → (a == b) ≡ false → (b == a) ≡ false
    turned a b e = grind (arith, nat_tests)

    not_erased : (a b : ℕ) (d : Bool) → (a == b) ≡ false → IsKept (change_when ((b == a) && d) empties)
    not_erased a b d e = when_false (b == a) d (turned a b e)
entry_keeps state coding start contents past tag (Kind.Age die named amount) range c fresh place spared some = aged (place.die == die && place.sb == named)
  where
    aged : (b : Bool) → IsKept (change_when b (ages amount))
    aged true = tt
    aged false = tt
entry_keeps state coding start contents past tag kind range c fresh place spared some = tt

-- the past of an older position, and that of the newest entry
pub past_before : (entry : Entry) (past : List Entry) (at : ℕ) → at ≤ length past → past_at (entry ∷ past) at ≡ past_at past at
past_before entry past at le = ap {B = List Entry} (λ (k : ℕ). drop k (entry ∷ past)) (one_more (length past) at le)
  where
    one_more : (n k : ℕ) → k ≤ n → suc n - k ≡ suc (n - k)
    one_more n k le = omega arith

pub past_now : (entry : Entry) (past : List Entry) → past_at (entry ∷ past) (length past) ≡ past
past_now entry past = ap {B = List Entry} (λ (k : ℕ). drop k (entry ∷ past)) (one (length past))
  where
    one : (n : ℕ) → suc n - n ≡ 1
    one n = omega arith

-- an entry that doesn't erase a superblock keeps its used slots
pub spared_keeps : (sb : ℕ) (kind : Kind) → is_erase_or_bad_erase_of sb kind ≡ false → Keeps sb kind
spared_keeps sb (Kind.Erase named) e = e
spared_keeps sb (Kind.BadErase named die fault) e = e
spared_keeps sb kind e = tt

-- an open look holds its pages fast over one more entry that spares its superblock
keeps_step : (state : ℕ → LadderState) (coding : Coding) (start : Start) (contents : List (Tag × List ℕ)) (past : List Entry) (entry : Entry) → is_in_range start.base.shape entry.kind ≡ true
    → IsLawfulKind state start.base past entry.tag entry.kind → AreFresh coding start contents past → (pin : Tag × Look) → is_erase_or_bad_erase_of pin.1.slot.sb entry.kind ≡ false
    → KeepsPages coding start contents past pin → KeepsPages coding start contents (entry ∷ past) pin
keeps_step state coding start contents past entry range c fresh pin spared h =
    let same : past_at (entry ∷ past) pin.1.at ≡ past_at past pin.1.at = past_before entry past pin.1.at (omega (arith, h.began)) in
    record {
      began = omega (arith, h.began);
      pages = λ place of_sb some.
          let first : KeepsWord (page_of coding start contents (past_at past pin.1.at) place) (page_of coding start contents past place) =
          h.pages place of_sb (subst (λ (p : List Entry). IsSome (page_of coding start contents p place)) same some) in
          let spared_place : is_erase_or_bad_erase_of place.sb entry.kind ≡ false = subst (λ (sb : ℕ). is_erase_or_bad_erase_of sb entry.kind ≡ false) (sym of_sb) spared in
          let next : KeepsWord (page_of coding start contents past place) (page_of coding start contents (entry ∷ past) place) =
          word_stays start.base (page_change start.base.shape.dies entry.kind place) _ _ (page_of coding start contents past place)
          (entry_keeps state coding start contents past entry.tag entry.kind range c fresh place spared_place first.programmed) first.programmed in
          let both : KeepsWord (page_of coding start contents (past_at past pin.1.at) place) (page_of coding start contents (entry ∷ past) place) =
          record { programmed = next.programmed; word = next.word ∙ first.word } in
          subst (λ (p : List Entry). KeepsWord (page_of coding start contents p place) (page_of coding start contents (entry ∷ past) place)) (sym same) both;
      used = subst (λ (p : List Entry). used_of start.base p pin.1.slot.sb ≤ used_of start.base (entry ∷ past) pin.1.slot.sb) (sym same)
          (le_trans_of (used_of start.base (past_at past pin.1.at) pin.1.slot.sb) (used_of start.base past pin.1.slot.sb) (used_of start.base (entry ∷ past) pin.1.slot.sb) h.used
          (used_kept pin.1.slot.sb entry.kind (used_of start.base past pin.1.slot.sb) (spared_keeps pin.1.slot.sb entry.kind spared)));
    }
  where
    le_trans_of : (a b d : ℕ) → a ≤ b → b ≤ d → a ≤ d
    le_trans_of a b d h g = omega arith

-- a look that was just made does
new_keeps : (coding : Coding) (start : Start) (contents : List (Tag × List ℕ)) (past : List Entry) (tag by : Tag) (row : ℕ) (found : Row) (closed : Bool) (look : Look) → look.at ≡ length past
    → KeepsPages coding start contents (made tag (Kind.Look row found closed) ∷ past) (by, look)
new_keeps coding start contents past tag by row found closed look at =
    let entry : Entry = made tag (Kind.Look row found closed) in
    let same : past_at (entry ∷ past) look.at ≡ past = ap {B = List Entry} (past_at (entry ∷ past)) at ∙ past_now entry past in
    record {
      began = omega (arith, at);
      pages = λ place of_sb some.
          subst (λ (p : List Entry). KeepsWord (page_of coding start contents p place) (page_of coding start contents (entry ∷ past) place)) (sym same)
          (record { programmed = subst (λ (p : List Entry). IsSome (page_of coding start contents p place)) same some; word = refl });
      used = subst (λ (p : List Entry). used_of start.base p look.slot.sb ≤ used_of start.base (entry ∷ past) look.slot.sb) (sym same) (le_same (used_of start.base past look.slot.sb));
    }
  where
    le_same : (n : ℕ) → n ≤ n
    le_same n = omega arith

-- all open looks hold their pages fast over one more entry
pins_step : (state : ℕ → LadderState) (coding : Coding) (start : Start) (contents : List (Tag × List ℕ)) (past : List Entry) (tag : Tag) (kind : Kind) → is_in_range start.base.shape kind ≡ true
    → IsLawfulKind state start.base past tag kind → AreFresh coding start contents past
    → All (λ pin. is_erase_or_bad_erase_of pin.1.slot.sb kind ≡ false) (open_looks past) → All (KeepsPages coding start contents past) (open_looks past)
    → All (KeepsPages coding start contents (made tag kind ∷ past)) (open_looks (made tag kind ∷ past))
pins_step state coding start contents past tag (Kind.Look row (Row.Page slot serial) closed) range c fresh spared h =
    let look : Look = record { at = length past; row = row; slot = slot; serial = serial; closed = closed } in
    let after : Tag × Look → Type 0 = KeepsPages coding start contents (made tag (Kind.Look row (Row.Page slot serial) closed) ∷ past) in
    All-append after (open_looks past) ((tag, look) ∷ [])
    (all_by_two (λ pin. is_erase_or_bad_erase_of pin.1.slot.sb (Kind.Look row (Row.Page slot serial) closed) ≡ false) (KeepsPages coding start contents past) after
    (keeps_step state coding start contents past (made tag (Kind.Look row (Row.Page slot serial) closed)) range c fresh) (open_looks past) spared h)
    (All-cons after (tag, look) [] (new_keeps coding start contents past tag tag row (Row.Page slot serial) closed look refl) (All-nil after))
pins_step state coding start contents past tag (Kind.Leave left) range c fresh spared h =
    all_left (KeepsPages coding start contents (made tag (Kind.Leave left) ∷ past)) (open_looks past) left
    (all_by_two (λ pin. is_erase_or_bad_erase_of pin.1.slot.sb (Kind.Leave left) ≡ false) (KeepsPages coding start contents past) (KeepsPages coding start contents (made tag (Kind.Leave left) ∷ past))
    (keeps_step state coding start contents past (made tag (Kind.Leave left)) range c fresh) (open_looks past) spared h)
pins_step state coding start contents past tag kind range c fresh spared h =
    all_by_two (λ pin. is_erase_or_bad_erase_of pin.1.slot.sb kind ≡ false) (KeepsPages coding start contents past) (KeepsPages coding start contents (made tag kind ∷ past))
    (keeps_step state coding start contents past (made tag kind) range c fresh) (open_looks past) spared h

pub pinned_pages_stay : PinnedPagesStay
pinned_pages_stay ladder coding start contents [] due lawful = All-nil (KeepsPages coding start contents [])
pinned_pages_stay ladder coding start contents (entry ∷ past) due lawful =
    pins_step (ladder past) coding start contents past entry.tag entry.kind lawful.1.in_range lawful.1.meets (fresh_above ladder coding start contents past due lawful.0)
    (erases_spare_looks ladder start.base entry past lawful) (pinned_pages_stay ladder coding start contents past due lawful.0)
