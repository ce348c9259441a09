-- In a lawful past no page is programmed where the next slots of a superblock stand, and the next slot's parity.
use Rattle.std.proofs.Common.{◌≡◌, ◌≢◌, ℕ, ◌+◌, ◌-◌, ◌*◌, ◌/◌, ◌%◌, ◌<◌, ◌≤◌, ◌==◌, nat_lt, ◌&&◌, ◌||◌, Bool, true, false, List, [], ◌∷◌, refl, ap, sym, ◌∙◌, Option, Some, None, arith}
use Rattle.std.specs.Prelude.{if◌then◌else◌, option_map}
use Rattle.std.specs.List.{list_any}
use Rattle.std.proofs.lemmas.Bool.Decides.{nat_tests}
use Rattle.std.proofs.lemmas.Nat.{div-add-mod'}
use Rattle.std.proofs.lemmas.Option.{slice_get_past}
use Rattle.ssd_geo.specs.declared.base.ChannelBase.{ChannelBase}
use Rattle.ssd_geo.specs.declared.entry.Entry.{Entry}
use Rattle.ssd_geo.specs.declared.kind.Kind.{Kind}
use Rattle.ssd_geo.specs.declared.place.Place.{Place}
use Rattle.ssd_geo.specs.declared.slot.Slot.{Slot}
use Rattle.ssd_geo.specs.declared.tag.Tag.{Tag}
use Rattle.ssd_geo.specs.Coding.{Coding}
use Rattle.ssd_histories.specs.PageMap.{slot_at}
use Rattle.ssd_histories.specs.PastBlocks.{block_before, is_bad_superblock, turns_bad, used_of}
use Rattle.ssd_histories.specs.States as States
use Rattle.ssd_histories.specs.PastPages.{PageChange, StoredPage, programs, programs_parity, empties, ages, leaves, aged_page, change_by_failed, change_by_program, change_when, is_place, page_change, page_of, stored_in_image}
use Rattle.ssd_histories.specs.PinnedPages.{HasDuePages}
use Rattle.ssd_histories.specs.History.{open_look}
use Rattle.ssd_geo.specs.Ladder.{LadderState}
use Rattle.ssd_histories.specs.Lawful.{IsLawfulBy, IsLawfulKind, IsLawfulMove}
use Rattle.ssd_histories.specs.Ranges.{has_slot, is_in_range}
use Rattle.ssd_histories.specs.Room.{next_slot}
use Rattle.ssd_histories.specs.Start.{Start, cells_at_start}
use Rattle.ssd_geo.specs.Stripe.{is_last_of_stripe, parity_die, place_of_parity, place_of_slot, stripe_of_index}
use Rattle.ssd_histories.proofs.FreshSlots.{due_below_parity, due_below_slot, not_parity, same_place, slot_die}
use Rattle.ssd_geo.proofs.Stripes.{parity_die-lt, places_differ}
use Rattle.ssd_histories.proofs.UsedSlots.{made, next_is_used, of_some, second_holds, slot_in_range, used_kept}

-- a change that programs nothing
abbrev pub IsNoProgram : PageChange → Type 0
IsNoProgram programs = ⊥
IsNoProgram (programs_parity slot) = ⊥
IsNoProgram empties = Unit {0}
IsNoProgram (ages amount) = Unit {0}
IsNoProgram leaves = Unit {0}

-- a change that programs nothing and empties nothing
abbrev pub IsKept : PageChange → Type 0
IsKept programs = ⊥
IsKept (programs_parity slot) = ⊥
IsKept empties = ⊥
IsKept (ages amount) = Unit {0}
IsKept leaves = Unit {0}

pub kept_no_program : (change : PageChange) → IsKept change → IsNoProgram change
kept_no_program programs kept = kept
kept_no_program (programs_parity slot) kept = kept
kept_no_program empties kept = tt
kept_no_program (ages amount) kept = tt
kept_no_program leaves kept = tt

-- a page that isn't programmed stays so
pub none_stays : (base : ChannelBase) (change : PageChange) (a : Option StoredPage) (b : Slot → Option StoredPage) (before : Option StoredPage) → IsNoProgram change → before ≡ None
    → ◌≡◌ {A = Option StoredPage} (elim change [
      | programs ↦ a
      | programs_parity slot ↦ b slot
      | empties ↦ None
      | ages amount ↦ option_map (aged_page base amount) before
      | leaves ↦ before
    ]) None
none_stays base programs a b before none e = absurd none
none_stays base (programs_parity slot) a b before none e = absurd none
none_stays base empties a b before none e = refl
none_stays base (ages amount) a b before none e = ap {B = Option StoredPage} (option_map (aged_page base amount)) e
none_stays base leaves a b before none e = e

when_no_program : (b : Bool) (change : PageChange) → IsNoProgram change → IsNoProgram (change_when b change)
when_no_program true change none = none
when_no_program false change none = tt

-- a program of a slot programs no page but the slot's and, with the last slot of a stripe, the parity's
pub program_elsewhere : (dies : ℕ) (slot : Slot) (place : Place) → place ≢ place_of_slot dies slot
    → (is_last_of_stripe dies slot.index ≡ true → place ≢ place_of_parity dies slot.sb (stripe_of_index dies slot.index))
    → IsKept (change_by_program dies slot place)
program_elsewhere dies slot place other far = by_slot (is_place place (place_of_slot dies slot)) (λ e. other (same_place place (place_of_slot dies slot) e))
  where
    by_parity : (last here : Bool) → (last ≡ true → here ≡ true → ⊥) → IsKept (elim (last && here) [ true ↦ programs_parity slot | false ↦ leaves ])
    by_parity true true none = none refl refl
    by_parity true false none = tt
    by_parity false here none = tt

    by_slot : (b : Bool) → (b ≡ true → ⊥) → IsKept (elim b [
      | true ↦ programs
      | false ↦ elim (is_last_of_stripe dies slot.index && is_place place (place_of_parity dies slot.sb (stripe_of_index dies slot.index))) [
        | true ↦ programs_parity slot
        | false ↦ leaves
      ]
    ])
    by_slot true none = none refl
    by_slot false none =
        by_parity (is_last_of_stripe dies slot.index) (is_place place (place_of_parity dies slot.sb (stripe_of_index dies slot.index)))
        (λ last here. far last (same_place place (place_of_parity dies slot.sb (stripe_of_index dies slot.index)) here))

-- a program that failed programs no page but the slot's
pub failed_elsewhere : (dies : ℕ) (slot : Slot) (die : ℕ) (place : Place) → place ≢ place_of_slot dies slot → IsKept (change_by_failed dies slot die place)
failed_elsewhere dies slot die place other =
    by_both (die == parity_die dies slot.sb (stripe_of_index dies slot.index)) (is_place place (place_of_slot dies slot))
    (λ e. other (same_place place (place_of_slot dies slot) e))
  where
    by_both : (a b : Bool) → (b ≡ true → ⊥) → IsKept (elim (a && b) [ true ↦ programs | false ↦ leaves ])
    by_both true true none = none refl
    by_both true false none = tt
    by_both false b none = tt

-- a place of another slot of the superblock, or of another superblock, isn't the slot's nor its parity's
pub slot_elsewhere : (dies sb index used : ℕ) (slot : Slot) → 2 ≤ dies → (sb ≡ slot.sb → slot.index ≡ used) → (if slot.sb == sb then used + 1 else used) ≤ index
    → IsNoProgram (change_by_program dies slot (place_of_slot dies (slot_at sb index)))
slot_elsewhere dies sb index used slot two at le =
    kept_no_program (change_by_program dies slot (place_of_slot dies (slot_at sb index)))
    (program_elsewhere dies slot (place_of_slot dies (slot_at sb index))
    (λ e. let same : slot_at sb index ≡ slot = places_differ dies (slot_at sb index) slot two e in
    let blocks : sb ≡ slot.sb = ap {B = ℕ} (λ (s : Slot). s.sb) same in
    let indices : index ≡ slot.index = ap {B = ℕ} (λ (s : Slot). s.index) same in
    used_up sb slot.sb used index blocks (indices ∙ at blocks) le)
    (λ last e.
    let blocks : sb ≡ slot.sb = ap {B = ℕ} (λ (p : Place). p.sb) e in
    let stripes : stripe_of_index dies index ≡ stripe_of_index dies slot.index = ap {B = ℕ} (λ (p : Place). p.page) e in
    let parities : place_of_parity dies slot.sb (stripe_of_index dies slot.index) ≡ place_of_parity dies sb (stripe_of_index dies index) =
    λ i. place_of_parity dies (sym blocks i) (sym stripes i) in
    not_parity dies sb index two (e ∙ parities)))
  where
    used_up : (a b u n : ℕ) → a ≡ b → n ≡ u → (if b == a then u + 1 else u) ≤ n → ⊥
    used_up a b u n e f le = grind (arith, nat_tests)

-- the parity's place of an open stripe isn't the next slot's nor that of a stripe that it completes
pub parity_elsewhere : (dies sb stripe used : ℕ) (slot : Slot) → 2 ≤ dies → (sb ≡ slot.sb → slot.index ≡ used) → (if slot.sb == sb then used + 1 else used) < (stripe + 1) * (dies - 1)
    → IsNoProgram (change_by_program dies slot (place_of_parity dies sb stripe))
parity_elsewhere dies sb stripe used slot two at lt =
    kept_no_program (change_by_program dies slot (place_of_parity dies sb stripe))
    (program_elsewhere dies slot (place_of_parity dies sb stripe)
    (λ e. let blocks : sb ≡ slot.sb = ap {B = ℕ} (λ (p : Place). p.sb) e in
    let stripes : stripe ≡ stripe_of_index dies slot.index = ap {B = ℕ} (λ (p : Place). p.page) e in
    let parities : place_of_parity dies sb stripe ≡ place_of_parity dies slot.sb (stripe_of_index dies slot.index) =
    λ i. place_of_parity dies (blocks i) (stripes i) in
    not_parity dies slot.sb slot.index two (sym e ∙ parities))
    (λ last e.
    let blocks : sb ≡ slot.sb = ap {B = ℕ} (λ (p : Place). p.sb) e in
    let stripes : stripe ≡ stripe_of_index dies slot.index = ap {B = ℕ} (λ (p : Place). p.page) e in
    completed sb slot.sb used slot.index stripe (dies - 1) blocks (at blocks) stripes last lt))
  where
    closes : (n w : ℕ) → (n % w + 1 == w) ≡ true → n + 1 ≡ n / w * w + w
    closes n w last = let full : n % w + 1 ≡ w = grind (arith, nat_tests) in omega (arith, div-add-mod' n w, full)

    more : (b a u : ℕ) → a ≡ b → ◌≡◌ {A = ℕ} (if b == a then u + 1 else u) (u + 1)
    more b a u e = grind (arith, nat_tests)

    completed : (a b u n s w : ℕ) → a ≡ b → n ≡ u → s ≡ n / w → (n % w + 1 == w) ≡ true → (if b == a then u + 1 else u) < (s + 1) * w → ⊥
    completed a b u n s w e f g last lt =
        let times : s * w ≡ n / w * w = ap {B = ℕ} (λ (k : ℕ). k * w) g in omega (arith, closes n w last, more b a u e, times)

-- no page of a superblock is programmed where its next slots stand, nor where the parities of its open stripes do
pub record IsFreshAbove (coding : Coding) (start : Start) (contents : List (Tag × List ℕ)) (past : List Entry) (sb : ℕ) : Type 0 where
  pub slots : (index : ℕ) → used_of start.base past sb ≤ index → page_of coding start contents past (place_of_slot start.base.shape.dies (slot_at sb index)) ≡ None
  pub parities :
      (stripe : ℕ) → used_of start.base past sb < (stripe + 1) * (start.base.shape.dies - 1)
      → page_of coding start contents past (place_of_parity start.base.shape.dies sb stripe) ≡ None

-- a channel has at least two dies
pub two_dies : (start : Start) → 2 ≤ start.base.shape.dies
two_dies start = omega (arith, start.base.shape.within.dies_low)

-- a superblock that isn't bad wasn't before, and didn't turn bad
pub bad_before : (a t r : Bool) → (a || (t || r)) ≡ false → (a || r) ≡ false
bad_before true t r e = e
bad_before false true r e = absurd (grind arith)
bad_before false false r e = e

pub turned_bad : (a t r : Bool) → (a || (t || r)) ≡ false → t ≡ false
turned_bad true t r e = absurd (grind arith)
turned_bad false true r e = e
turned_bad false false r e = refl

not_bad_before : (base : ChannelBase) (past : List Entry) (entry : Entry) (sb : ℕ) → is_bad_superblock base (entry ∷ past) sb ≡ false → is_bad_superblock base past sb ≡ false
not_bad_before base past entry sb e =
    bad_before (States.is_bad (block_before base sb).state) (turns_bad sb entry.kind) (list_any (λ other. turns_bad sb other.kind) past) e

not_turned : (base : ChannelBase) (past : List Entry) (entry : Entry) (sb : ℕ) → is_bad_superblock base (entry ∷ past) sb ≡ false → turns_bad sb entry.kind ≡ false
not_turned base past entry sb e =
    turned_bad (States.is_bad (block_before base sb).state) (turns_bad sb entry.kind) (list_any (λ other. turns_bad sb other.kind) past) e

-- no page that the image doesn't have is programmed at first
first_fresh : (coding : Coding) (start : Start) (contents : List (Tag × List ℕ)) → HasDuePages start → (sb : ℕ) → sb < start.base.shape.superblocks
    → is_bad_superblock start.base [] sb ≡ false → IsFreshAbove coding start contents [] sb
first_fresh coding start contents due sb lt good =
    let sound : States.is_bad (block_before start.base sb).state ≡ false = image_good (States.is_bad (block_before start.base sb).state) good in
    record {
      slots = λ index le.
          let place : Place = place_of_slot start.base.shape.dies (slot_at sb index) in
          ap {B = Option StoredPage} (option_map stored_in_image)
          (slice_get_past (cells_at_start start place.die sb).pages place.page
          (omega (
            arith,
            due place.die sb (slot_die start.base.shape.dies sb index (two_dies start)) lt sound,
            due_below_slot start.base.shape.dies sb (block_before start.base sb).used index (two_dies start) le,
          )));
      parities = λ stripe lt_stripe.
          ap {B = Option StoredPage} (option_map stored_in_image)
          (slice_get_past (cells_at_start start (parity_die start.base.shape.dies sb stripe) sb).pages stripe
          (omega (
            arith,
            due (parity_die start.base.shape.dies sb stripe) sb (parity_die-lt start.base.shape.dies sb stripe (two_dies start)) lt sound,
            due_below_parity start.base.shape.dies sb (block_before start.base sb).used stripe (two_dies start) lt_stripe,
          )));
    }
  where
    image_good : (b : Bool) → (b || false) ≡ false → b ≡ false
    image_good true e = e
    image_good false e = e

-- an entry that programs nothing at the next slots and parities of a superblock, and leaves no fewer slots used, keeps
-- them fresh
kept_fresh : (coding : Coding) (start : Start) (contents : List (Tag × List ℕ)) (past : List Entry) (entry : Entry) (sb : ℕ)
    → used_of start.base past sb ≤ used_of start.base (entry ∷ past) sb
    → ((index : ℕ) → used_of start.base (entry ∷ past) sb ≤ index → IsNoProgram (page_change start.base.shape.dies entry.kind (place_of_slot start.base.shape.dies (slot_at sb index))))
    → ((stripe : ℕ) → used_of start.base (entry ∷ past) sb < (stripe + 1) * (start.base.shape.dies - 1)
    → IsNoProgram (page_change start.base.shape.dies entry.kind (place_of_parity start.base.shape.dies sb stripe)))
    → IsFreshAbove coding start contents past sb → IsFreshAbove coding start contents (entry ∷ past) sb
kept_fresh coding start contents past entry sb more slots parities h = record {
  slots = λ index le.
      none_stays start.base (page_change start.base.shape.dies entry.kind (place_of_slot start.base.shape.dies (slot_at sb index))) _ _
      (page_of coding start contents past (place_of_slot start.base.shape.dies (slot_at sb index))) (slots index le) (h.slots index (omega arith));
  parities = λ stripe lt.
      none_stays start.base (page_change start.base.shape.dies entry.kind (place_of_parity start.base.shape.dies sb stripe)) _ _
      (page_of coding start contents past (place_of_parity start.base.shape.dies sb stripe)) (parities stripe lt) (h.parities stripe (omega arith));
}

-- the next slot is the first unused one of its superblock, whichever of two equal superblocks is named
pub next_here : (base : ChannelBase) (past : List Entry) (slot : Slot) (sb : ℕ) → next_slot base past ≡ Some slot → has_slot base.shape slot ≡ true → sb ≡ slot.sb → slot.index ≡ used_of base past sb
next_here base past slot sb next range e =
    next_is_used base past slot next (slot_in_range base.shape slot range) ∙ ap {B = ℕ} (λ (n : ℕ). used_of base past n) (sym e)

-- a page after an erase of its superblock, or of another one while it wasn't programmed
erase_none : (base : ChannelBase) (erased : Bool) (a : Option StoredPage) (b : Slot → Option StoredPage) (before : Option StoredPage) → (erased ≡ false → before ≡ None)
    → ◌≡◌ {A = Option StoredPage} (elim (change_when erased empties) [
      | programs ↦ a
      | programs_parity slot ↦ b slot
      | empties ↦ None
      | ages amount ↦ option_map (aged_page base amount) before
      | leaves ↦ before
    ]) None
erase_none base true a b before h = refl
erase_none base false a b before h = h refl

used_before : (named sb used limit : ℕ) → (sb == named) ≡ false → (if named == sb then 0 else used) ≤ limit → used ≤ limit
used_before named sb used limit e le = grind (arith, nat_tests)

used_below : (named sb used limit : ℕ) → (sb == named) ≡ false → (if named == sb then 0 else used) < limit → used < limit
used_below named sb used limit e lt = grind (arith, nat_tests)

-- a place of a superblock isn't that of another's slot
place_elsewhere : (dies : ℕ) (slot : Slot) (place : Place) → (slot.sb == place.sb) ≡ false → place ≢ place_of_slot dies slot
place_elsewhere dies slot place e same = apart slot.sb place.sb e (ap {B = ℕ} (λ (p : Place). p.sb) same)
  where
    apart : (a b : ℕ) → (a == b) ≡ false → b ≡ a → ⊥
    apart a b e f = grind (arith, nat_tests)

-- a program that failed on a die leaves the pages of other superblocks
failed_fresh : (coding : Coding) (start : Start) (contents : List (Tag × List ℕ)) (past : List Entry) (entry : Entry) (sb : ℕ) (slot : Slot) (die : ℕ)
    → used_of start.base (entry ∷ past) sb ≡ used_of start.base past sb → ((place : Place) → page_change start.base.shape.dies entry.kind place ≡ change_by_failed start.base.shape.dies slot die place)
    → (slot.sb == sb) ≡ false → IsFreshAbove coding start contents past sb → IsFreshAbove coding start contents (entry ∷ past) sb
failed_fresh coding start contents past entry sb slot die used change other h =
    kept_fresh coding start contents past entry sb (omega arith)
    (λ index le. rw (change (place_of_slot start.base.shape.dies (slot_at sb index)))
    (kept_no_program (change_by_failed start.base.shape.dies slot die (place_of_slot start.base.shape.dies (slot_at sb index)))
    (failed_elsewhere start.base.shape.dies slot die (place_of_slot start.base.shape.dies (slot_at sb index)) (place_elsewhere start.base.shape.dies slot (place_of_slot start.base.shape.dies (slot_at sb index)) other))))
    (λ stripe lt. rw (change (place_of_parity start.base.shape.dies sb stripe))
    (kept_no_program (change_by_failed start.base.shape.dies slot die (place_of_parity start.base.shape.dies sb stripe))
    (failed_elsewhere start.base.shape.dies slot die (place_of_parity start.base.shape.dies sb stripe) (place_elsewhere start.base.shape.dies slot (place_of_parity start.base.shape.dies sb stripe) other))))
    h

-- the next slots of a superblock stay fresh after one more entry
fresh_step : (state : ℕ → LadderState) (coding : Coding) (start : Start) (contents : List (Tag × List ℕ)) (past : List Entry) (tag : Tag) (kind : Kind) → is_in_range start.base.shape kind ≡ true
    → IsLawfulKind state start.base past tag kind → (sb : ℕ) → turns_bad sb kind ≡ false → IsFreshAbove coding start contents past sb
    → IsFreshAbove coding start contents (made tag kind ∷ past) sb
fresh_step state coding start contents past tag (Kind.Write named slot) range c sb good h =
    kept_fresh coding start contents past (made tag (Kind.Write named slot)) sb (used_kept sb (Kind.Write named slot) (used_of start.base past sb) tt)
    (λ index le. slot_elsewhere start.base.shape.dies sb index (used_of start.base past sb) slot (two_dies start)
    (next_here start.base past slot sb c.is_programmed.is_next (second_holds (nat_lt named start.base.shape.rows) (has_slot start.base.shape slot) range)) le)
    (λ stripe lt. parity_elsewhere start.base.shape.dies sb stripe (used_of start.base past sb) slot (two_dies start)
    (next_here start.base past slot sb c.is_programmed.is_next (second_holds (nat_lt named start.base.shape.rows) (has_slot start.base.shape slot) range)) lt)
    h
fresh_step state coding start contents past tag (Kind.Move at slot) range c sb good h =
    kept_fresh coding start contents past (made tag (Kind.Move at slot)) sb (used_kept sb (Kind.Move at slot) (used_of start.base past sb) tt)
    (λ index le. slot_elsewhere start.base.shape.dies sb index (used_of start.base past sb) slot (two_dies start)
    (next_here start.base past slot sb (of_some (open_look past tag at) (λ look. IsLawfulMove (state at) start.base past look slot) (λ look move. move.is_programmed.is_next) c) range) le)
    (λ stripe lt. parity_elsewhere start.base.shape.dies sb stripe (used_of start.base past sb) slot (two_dies start)
    (next_here start.base past slot sb (of_some (open_look past tag at) (λ look. IsLawfulMove (state at) start.base past look slot) (λ look move. move.is_programmed.is_next) c) range) lt)
    h
fresh_step state coding start contents past tag (Kind.BadWrite named slot die fault) range c sb good h =
    failed_fresh coding start contents past (made tag (Kind.BadWrite named slot die fault)) sb slot die refl (λ place. refl) good h
fresh_step state coding start contents past tag (Kind.BadCopy at slot die fault) range c sb good h =
    failed_fresh coding start contents past (made tag (Kind.BadCopy at slot die fault)) sb slot die refl (λ place. refl) good h
fresh_step state coding start contents past tag (Kind.Erase named) range c sb good h = record {
  slots = λ index le.
      erase_none start.base (sb == named) _ _ (page_of coding start contents past (place_of_slot start.base.shape.dies (slot_at sb index)))
      (λ e. h.slots index (used_before named sb (used_of start.base past sb) index e le));
  parities = λ stripe lt.
      erase_none start.base (sb == named) _ _ (page_of coding start contents past (place_of_parity start.base.shape.dies sb stripe))
      (λ e. h.parities stripe (used_below named sb (used_of start.base past sb) ((stripe + 1) * (start.base.shape.dies - 1)) e lt));
}
fresh_step state coding start contents past tag (Kind.BadErase named die fault) range c sb good h =
    kept_fresh coding start contents past (made tag (Kind.BadErase named die fault)) sb (used_kept sb (Kind.BadErase named die fault) (used_of start.base past sb) good)
    (λ index le. when_no_program (sb == named && nat_lt (place_of_slot start.base.shape.dies (slot_at sb index)).die die) empties tt)
    (λ stripe lt. when_no_program (sb == named && nat_lt (parity_die start.base.shape.dies sb stripe) die) empties tt) h
fresh_step state coding start contents past tag (Kind.Age die named amount) range c sb good h =
    kept_fresh coding start contents past (made tag (Kind.Age die named amount)) sb (used_kept sb (Kind.Age die named amount) (used_of start.base past sb) tt)
    (λ index le. when_no_program ((place_of_slot start.base.shape.dies (slot_at sb index)).die == die && sb == named) (ages amount) tt)
    (λ stripe lt. when_no_program (parity_die start.base.shape.dies sb stripe == die && sb == named) (ages amount) tt) h
fresh_step state coding start contents past tag kind range c sb good h =
    kept_fresh coding start contents past (made tag kind) sb (used_kept sb kind (used_of start.base past sb) tt) (λ index le. tt) (λ stripe lt. tt) h

-- in a lawful past the next slots of each superblock that isn't bad are fresh
pub fresh_above : (ladder : List Entry → ℕ → LadderState) (coding : Coding) (start : Start) (contents : List (Tag × List ℕ)) (past : List Entry) → HasDuePages start
    → IsLawfulBy ladder start.base past → (sb : ℕ) → sb < start.base.shape.superblocks → is_bad_superblock start.base past sb ≡ false → IsFreshAbove coding start contents past sb
fresh_above ladder coding start contents [] due lawful sb lt good = first_fresh coding start contents due sb lt good
fresh_above ladder coding start contents (entry ∷ past) due lawful sb lt good =
    fresh_step (ladder past) coding start contents past entry.tag entry.kind lawful.1.in_range lawful.1.meets sb (not_turned start.base past entry sb good)
    (fresh_above ladder coding start contents past due lawful.0 sb lt (not_bad_before start.base past entry sb good))
