-- What entries of other actors leave of a call: its looks, and all that was made for them. In a lawful past each step of a
-- look is made by the call that made the look.
use Rattle.std.proofs.Common.{◌≡◌, ◌≢◌, ℕ, ◌+◌, ◌<◌, ◌==◌, cond, Bool, true, false, List, [], ◌∷◌, ◌++◌, length, refl, sym, ap, subst, ◌∙◌, zero-add, Option, Some, None, ℤ, arith, All}
use Rattle.std.specs.Prelude.{◌&&◌, ◌||◌, IsSome, IsSomeAnd, count_by, is_some}
use Rattle.std.proofs.lemmas.Bool.Decides.{nat_tests}
use Rattle.std.proofs.lemmas.Bool.{and_parts, false_from_ne_true}
use Rattle.std.proofs.lemmas.List.Elements.{All-nil, All-cons, All-head, All-tail, All-append}
use Rattle.std.proofs.lemmas.List.Sums.{sum_by-cons}
use Rattle.chan_calls.specs.Caller.{own_look}
use Rattle.chan_tables.specs.TablesState.{ends_recovered, ends_uncorrectable, senses_had}
use Rattle.recovery_laws.proofs.Pasts.{IsMade, look_is_made_at, older_look, open_looks_made}
use Rattle.ssd_geo.specs.Coding.{coding_of}
use Rattle.ssd_geo.specs.Ladder.{LadderState}
use Rattle.ssd_geo.specs.declared.base.ChannelBase.{ChannelBase}
use Rattle.ssd_geo.specs.declared.entry.Entry.{Entry}
use Rattle.ssd_geo.specs.declared.kind.Kind.{Kind}
use Rattle.ssd_geo.specs.declared.look.Look.{Look}
use Rattle.ssd_geo.specs.declared.place.Place.{Place}
use Rattle.ssd_geo.specs.declared.row.Row.{Row}
use Rattle.ssd_geo.specs.declared.tag.Tag.{Tag}
use Rattle.ssd_histories.specs.CallSteps.{is_sense_of}
use Rattle.ssd_histories.specs.Copies.{is_after_recovered, is_after_uncorrectable}
use Rattle.ssd_histories.specs.History.{is_same_tag, look_by, look_of, open_look, open_looks}
use Rattle.ssd_histories.specs.Lawful.{IsLawful, IsLawfulEntry, IsLawfulKind, has_fault_sense, is_fault_sense_of}
use Rattle.ssd_histories.specs.OpenLooks.{began_at, look_at, without_look}
use Rattle.ssd_histories.specs.PastPages.{ladder_of, sense_for, senses_of}
use Rattle.ssd_histories.specs.Start.{Start}
use Rattle.ssd_histories.proofs.OpenLookLaws.{all_left}

-- two tags of one call have one actor, and a tag of another actor is of another call
same_actor : (a b : Tag) → is_same_tag a b ≡ true → a.actor ≡ b.actor
same_actor a b same = equal a.actor b.actor (and_parts (a.actor == b.actor) (a.call == b.call) same).0
  where
    equal : (m n : ℕ) → (m == n) ≡ true → m ≡ n
    equal m n e = grind (arith, nat_tests)

other_call : (a b : Tag) → b.actor ≢ a.actor → is_same_tag a b ≡ false
other_call a b other = false_from_ne_true (is_same_tag a b) (λ same. other (sym (same_actor a b same)))

-- a call's look among some at a position
abbrev own_in : Tag → List (Tag × Look) → ℕ → Option Look
own_in tag pins at = look_by tag (look_at pins at)

-- a look of another call is none of this one
lone : (same : Bool) (look : Look) → same ≡ false → ◌≡◌ {A = Option Look} (elim same [ true ↦ Some look | false ↦ None ]) None
lone true look e = absurd (grind arith)
lone false look e = refl

not_own : (tag : Tag) (pin : Tag × Look) → is_same_tag tag pin.0 ≡ false → look_by tag (Some pin) ≡ None
not_own tag pin other = lone (is_same_tag tag pin.0) pin.1 other

-- what is found first is found, whatever stands behind
found_first : (tag : Tag) (b : Bool) (pin : Tag × Look) (one two : Option (Tag × Look)) → look_by tag one ≡ look_by tag two →
    look_by tag (cond b (Some pin) one) ≡ look_by tag (cond b (Some pin) two)
found_first tag true pin one two e = refl
found_first tag false pin one two e = e

found_none : (tag : Tag) (b : Bool) (pin : Tag × Look) → is_same_tag tag pin.0 ≡ false → look_by tag (cond b (Some pin) None)
    ≡ None
found_none tag true pin other = not_own tag pin other
found_none tag false pin other = refl

-- a look of another call that is opened last changes nothing
opened_last : (tag : Tag) (pin : Tag × Look) → is_same_tag tag pin.0 ≡ false → (pins : List (Tag × Look)) (at : ℕ) →
    own_in tag (pins ++ pin ∷ []) at ≡ own_in tag pins at
opened_last tag pin other [] at = found_none tag (began_at at pin) pin other
opened_last tag pin other (first ∷ pins) at =
    found_first tag (began_at at first) first (look_at (pins ++ pin ∷ []) at) (look_at pins at) (opened_last tag pin other
    pins at)

-- each look began after those before it
abbrev AreRising : List (Tag × Look) → Type 0
AreRising [] = Unit {0}
AreRising (pin ∷ pins) = All (λ (later : Tag × Look). pin.1.at < later.1.at) pins × AreRising pins

none_at : (pins : List (Tag × Look)) (at : ℕ) → All (λ (pin : Tag × Look). at < pin.1.at) pins → look_at pins at ≡ None
none_at [] at later = refl
none_at (pin ∷ pins) at later =
    other (began_at at pin) (look_at pins at) (apart pin.1.at at (All-head (λ (p : Tag × Look). at < p.1.at) pin pins later))
    (none_at pins at (All-tail (λ (p : Tag × Look). at < p.1.at) pin pins later))
  where
    apart : (m n : ℕ) → n < m → (m == n) ≡ false
    apart m n lt = grind (arith, nat_tests)

    other : (b : Bool) (rest : Option (Tag × Look)) → b ≡ false → rest ≡ None → ◌≡◌ {A = Option (Tag × Look)} (cond b (Some
        pin) rest) None
    other true rest e f = absurd (grind arith)
    other false rest e f = f

-- a look of another call that is left changes nothing
left_by_other : (tag : Tag) (left : ℕ) (pins : List (Tag × Look)) → AreRising pins → own_in tag pins left ≡ None → (at : ℕ) →
    own_in tag (without_look pins left) at ≡ own_in tag pins at
left_by_other tag left [] rising none at = refl
left_by_other tag left (pin ∷ pins) rising none at = by_left (began_at left pin) refl none (left_by_other tag left pins
    rising.1)
  where
    equal : (m n : ℕ) → (m == n) ≡ true → n ≡ m
    equal m n e = grind (arith, nat_tests)

    here : (b : Bool) → began_at at pin ≡ b → look_by tag (Some pin) ≡ None →
        own_in tag pins at ≡ look_by tag (cond b (Some pin) (look_at pins at))
    here true e gone =
        ap {B = Option Look} (look_by tag) (none_at pins at (subst (λ (n : ℕ). All (λ (later : Tag × Look). n < later.1.at)
        pins)
        (sym (equal pin.1.at at e)) rising.0)) ∙ sym gone
    here false e gone = refl

    by_left : (b : Bool) → began_at left pin ≡ b → look_by tag (cond b (Some pin) (look_at pins left)) ≡ None →
        (own_in tag pins left ≡ None → (n : ℕ) → own_in tag (without_look pins left) n ≡ own_in tag pins n) →
        own_in tag (cond b pins (pin ∷ without_look pins left)) at ≡ own_in tag (pin ∷ pins) at
    by_left true e gone rest = here (began_at at pin) refl gone
    by_left false e gone rest =
        found_first tag (began_at at pin) pin (look_at (without_look pins left) at) (look_at pins at) (rest gone at)

-- the open looks of a past are rising
below_now : (past : List Entry) → All (λ (pin : Tag × Look). pin.1.at < length past) (open_looks past)
below_now past = λ k d within. (look_is_made_at past _ _ (open_looks_made past k d within)).below

rising_last : (pins : List (Tag × Look)) (pin : Tag × Look) → AreRising pins → All (λ (p : Tag × Look). p.1.at < pin.1.at)
    pins →
    AreRising (pins ++ pin ∷ [])
rising_last [] pin rising below = (All-nil (λ (later : Tag × Look). pin.1.at < later.1.at), tt)
rising_last (first ∷ pins) pin rising below = (
  All-append (λ (later : Tag × Look). first.1.at < later.1.at) pins (pin ∷ []) rising.0
      (All-cons (λ (later : Tag × Look). first.1.at < later.1.at) pin []
      (All-head (λ (p : Tag × Look). p.1.at < pin.1.at) first pins below) (All-nil (λ (later : Tag × Look). first.1.at <
      later.1.at))),
  rising_last pins pin rising.1 (All-tail (λ (p : Tag × Look). p.1.at < pin.1.at) first pins below),
)

rising_left : (pins : List (Tag × Look)) (left : ℕ) → AreRising pins → AreRising (without_look pins left)
rising_left [] left rising = tt
rising_left (pin ∷ pins) left rising = by_left (began_at left pin) (rising_left pins left rising.1)
  where
    by_left : (b : Bool) → AreRising (without_look pins left) → AreRising (cond b pins (pin ∷ without_look pins left))
    by_left true rest = rising.1
    by_left false rest = (all_left (λ (later : Tag × Look). pin.1.at < later.1.at) pins left rising.0, rest)

rising_step : (past : List Entry) (tag : Tag) (kind : Kind) → AreRising (open_looks past) →
    AreRising (open_looks (record { tag = tag; kind = kind } ∷ past))
rising_step past tag (Kind.Look row (Row.Page slot serial) closed) rising =
    let look : Look = record { at = length past; row = row; slot = slot; serial = serial; closed = closed } in
    rising_last (open_looks past) (tag, look) rising (below_now past)
rising_step past tag (Kind.Leave left) rising = rising_left (open_looks past) left rising
rising_step past tag kind rising = rising

are_rising : (past : List Entry) → AreRising (open_looks past)
are_rising [] = tt
are_rising (entry ∷ past) = rising_step past entry.tag entry.kind (are_rising past)

-- two calls have no look in common
two_calls : (one two : Tag) (found : Option (Tag × Look)) → IsSome (look_by one found) → IsSome (look_by two found) →
    one.actor ≡ two.actor
two_calls one two None first second = absurd (cc)
two_calls one two (Some pin) first second =
    same_actor one pin.0 (has one first) ∙ sym (same_actor two pin.0 (has two second))
  where
    by_same : (b : Bool) → is_some (elim b as (λ x. Option Look) [ true ↦ Some pin.1 | false ↦ None ]) ≡ true → b ≡ true
    by_same true e = refl
    by_same false e = e

    has : (tag : Tag) → IsSome (look_by tag (Some pin)) → is_same_tag tag pin.0 ≡ true
    has tag some = by_same (is_same_tag tag pin.0) some

-- whether an entry is a step of the look that began at a position
abbrev is_step_of : ℕ → Kind → Bool
is_step_of at (Kind.Sense named place level) = named == at
is_step_of at (Kind.FaultSense named place level) = named == at
is_step_of at (Kind.Leave named) = named == at
is_step_of at (Kind.Move named slot) = named == at
is_step_of at (Kind.Changed named found) = named == at
is_step_of at (Kind.Condemn named) = named == at
is_step_of at (Kind.Stay named worn) = named == at
is_step_of at (Kind.BadCopy named slot die fault) = named == at
is_step_of at _ = false

some_of : {A : Type 0} (option : Option A) (P : A → Type 0) → IsSomeAnd option P → IsSome option
some_of None P some = absurd some
some_of (Some a) P some = refl

module _ (ladder : ℕ → LadderState) (base : ChannelBase) (past : List Entry) (tag : Tag) (at : ℕ) where
  open_here : (named : ℕ) (P : Look → Type 0) → (named == at) ≡ true → IsSomeAnd (open_look past tag named) P → IsSome
      (open_look past tag at)
  open_here named P e some =
      subst (λ (n : ℕ). IsSome (open_look past tag n)) (equal named at e) (some_of (open_look past tag named) P some)
    where
      equal : (m n : ℕ) → (m == n) ≡ true → m ≡ n
      equal m n f = grind (arith, nat_tests)

  -- a lawful step of a look is made by its call
  by_its_call : (kind : Kind) → IsLawfulKind ladder base past tag kind → is_step_of at kind ≡ true → IsSome (open_look past
      tag at)
  by_its_call (Kind.Sense named place level) lawful e = open_here named _ e lawful
  by_its_call (Kind.FaultSense named place level) lawful e = open_here named _ e lawful
  by_its_call (Kind.Leave named) lawful e = open_here named _ e lawful
  by_its_call (Kind.Move named slot) lawful e = open_here named _ e lawful
  by_its_call (Kind.Changed named found) lawful e = open_here named _ e lawful
  by_its_call (Kind.Condemn named) lawful e = open_here named _ e lawful
  by_its_call (Kind.Stay named worn) lawful e = open_here named _ e lawful
  by_its_call (Kind.BadCopy named slot die fault) lawful e = open_here named _ e lawful
  by_its_call kind lawful e = absurd (cc)

-- the steps that tests name are steps of a look
module _ (at : ℕ) where
  sense_is_step : (kind : Kind) → is_step_of at kind ≡ false → is_sense_of at kind ≡ false
  sense_is_step (Kind.Sense named place level) e = e
  sense_is_step kind e = refl

  fault_is_step : (kind : Kind) → is_step_of at kind ≡ false → is_fault_sense_of at kind ≡ false
  fault_is_step (Kind.FaultSense named place level) e = e
  fault_is_step kind e = refl

  recovered_is_step : (kind : Kind) → is_step_of at kind ≡ false → is_after_recovered at kind ≡ false
  recovered_is_step (Kind.Move named slot) e = e
  recovered_is_step (Kind.Changed named found) e = e
  recovered_is_step (Kind.Stay named worn) e = e
  recovered_is_step (Kind.BadCopy named slot die fault) e = e
  recovered_is_step kind e = refl

  uncorrectable_is_step : (kind : Kind) → is_step_of at kind ≡ false → is_after_uncorrectable at kind ≡ false
  uncorrectable_is_step (Kind.Condemn named) e = e
  uncorrectable_is_step (Kind.Changed named found) e = e
  uncorrectable_is_step kind e = refl

  no_sense : (kind : Kind) → is_step_of at kind ≡ false → sense_for at kind ≡ None
  no_sense (Kind.Sense named place level) e = none (named == at) e
    where
      none : (b : Bool) → b ≡ false → ◌≡◌ {A = Option (Place × ℤ)} (elim b [ true ↦ Some (place, level) | false ↦ None ]) None
      none true f = absurd (grind arith)
      none false f = refl
  no_sense kind e = refl

-- a call's look began below what each look began below
began_below : (tag : Tag) (now : ℕ) (pins : List (Tag × Look)) (at : ℕ) → All (λ (pin : Tag × Look). pin.1.at < now) pins →
    IsSome (own_in tag pins at) → at < now
began_below tag now [] at all own = absurd (cc)
began_below tag now (pin ∷ pins) at all own =
    by_test (began_at at pin) refl own (began_below tag now pins at (All-tail (λ (p : Tag × Look). p.1.at < now) pin pins
    all))
  where
    equal : (m k : ℕ) → (m == k) ≡ true → m ≡ k
    equal m k e = grind (arith, nat_tests)

    by_test : (b : Bool) → began_at at pin ≡ b → IsSome (look_by tag (cond b (Some pin) (look_at pins at))) →
        (IsSome (own_in tag pins at) → at < now) → at < now
    by_test true e is rest =
        subst (λ (m : ℕ). m < now) (equal pin.1.at at e) (All-head (λ (p : Tag × Look). p.1.at < now) pin pins all)
    by_test false e is rest = rest is

-- what an entry of another actor leaves of a call
module _ (start : Start) (contents : List (Tag × List ℕ)) (past : List Entry) (entry : Entry) (tag : Tag)
    (lawful : IsLawfulEntry (ladder_of (coding_of start.base) start contents past) start.base past entry)
    (other : entry.tag.actor ≢ tag.actor) where
  not_of_other : (at : ℕ) → IsSome (own_look tag past at) → is_step_of at entry.kind ≡ false
  not_of_other at some = false_from_ne_true (is_step_of at entry.kind) (λ is.
      other (two_calls entry.tag tag (look_at (open_looks past) at)
      (by_its_call (ladder_of (coding_of start.base) start contents past) start.base past entry.tag at entry.kind
      lawful.meets is) some))

  none_of_other : (at : ℕ) → IsSome (open_look past entry.tag at) → own_look tag past at ≡ None
  none_of_other at some = is_none (own_look tag past at) (λ own. other (two_calls entry.tag tag (look_at (open_looks past)
      at) some own))
    where
      is_none : (option : Option Look) → (IsSome option → ⊥) → option ≡ None
      is_none None never = refl
      is_none (Some look) never = absurd (never refl)

  own_kept : (kind : Kind) → IsLawfulKind (ladder_of (coding_of start.base) start contents past) start.base past entry.tag
      kind → (at : ℕ) →
      own_look tag (record { tag = entry.tag; kind = kind } ∷ past) at ≡ own_look tag past at
  own_kept (Kind.Look row (Row.Page slot serial) closed) lawful at =
      let look : Look = record { at = length past; row = row; slot = slot; serial = serial; closed = closed } in
      opened_last tag (entry.tag, look) (other_call tag entry.tag other) (open_looks past) at
  own_kept (Kind.Leave left) lawful at =
      left_by_other tag left (open_looks past) (are_rising past)
      (none_of_other left (some_of (open_look past entry.tag left) _ lawful)) at
  own_kept kind lawful at = refl

  own_after : (at : ℕ) → own_look tag (entry ∷ past) at ≡ own_look tag past at
  own_after at = own_kept entry.kind lawful.meets at

  senses_after : (at : ℕ) → IsSome (own_look tag past at) → senses_had (entry ∷ past) at ≡ senses_had past at
  senses_after at some =
      sum_by-cons (λ (e : Entry). cond (is_sense_of at e.kind) 1 0) entry past
      ∙ (ap {B = ℕ} (λ (b : Bool). cond b 1 0 + senses_had past at) (sense_is_step at entry.kind (not_of_other at some))
      ∙ zero-add (senses_had past at))

  fault_after : (at : ℕ) → IsSome (own_look tag past at) → has_fault_sense (entry ∷ past) at ≡ has_fault_sense past at
  fault_after at some = ap (λ (b : Bool). b || has_fault_sense past at) (fault_is_step at entry.kind (not_of_other at some))

  recovered_after : (at : ℕ) → IsSome (own_look tag past at) → ends_recovered (entry ∷ past) at ≡ ends_recovered past at
  recovered_after at some = ap (λ (b : Bool). b || ends_recovered past at) (recovered_is_step at entry.kind (not_of_other at
      some))

  uncorrectable_after : (at : ℕ) → IsSome (own_look tag past at) → ends_uncorrectable (entry ∷ past) at ≡ ends_uncorrectable
      past at
  uncorrectable_after at some =
      ap (λ (b : Bool). b || ends_uncorrectable past at) (uncorrectable_is_step at entry.kind (not_of_other at some))

  sensed_after : (at : ℕ) → IsSome (own_look tag past at) →
      senses_of (coding_of start.base) start contents (entry ∷ past) at ≡ senses_of (coding_of start.base) start contents
      past at
  sensed_after at some = rw (no_sense at entry.kind (not_of_other at some), senses_of) refl

  look_after : (at : ℕ) → IsSome (own_look tag past at) → look_of (entry ∷ past) at ≡ look_of past at
  look_after at some = older_look entry past at (began_below tag (length past) (open_looks past) at (below_now past) some)

-- what a call has of what it had seen is the same in a longer past
pub record OwnStays (start : Start) (contents : List (Tag × List ℕ)) (tag : Tag) (seen now : List Entry) : Type 0 where
  pub looks_stay : (at : ℕ) → own_look tag now at ≡ own_look tag seen at
  pub senses_stay : (at : ℕ) → IsSome (own_look tag seen at) → senses_had now at ≡ senses_had seen at
  pub faults_stay : (at : ℕ) → IsSome (own_look tag seen at) → has_fault_sense now at ≡ has_fault_sense seen at
  pub recovered_stay : (at : ℕ) → IsSome (own_look tag seen at) → ends_recovered now at ≡ ends_recovered seen at
  pub uncorrectable_stay : (at : ℕ) → IsSome (own_look tag seen at) → ends_uncorrectable now at ≡ ends_uncorrectable seen at
  pub look_stays : (at : ℕ) → IsSome (own_look tag seen at) → look_of now at ≡ look_of seen at
  pub sensed_stay : (at : ℕ) → IsSome (own_look tag seen at) →
      senses_of (coding_of start.base) start contents now at ≡ senses_of (coding_of start.base) start contents seen at

pub own_stays : (start : Start) (contents : List (Tag × List ℕ)) (tag : Tag) (seen others : List Entry) →
    IsLawful start contents (others ++ seen) → All (λ entry. entry.tag.actor ≢ tag.actor) others →
    OwnStays start contents tag seen (others ++ seen)
own_stays start contents tag seen [] lawful other = record {
  looks_stay = λ at. refl;
  senses_stay = λ at some. refl;
  faults_stay = λ at some. refl;
  recovered_stay = λ at some. refl;
  uncorrectable_stay = λ at some. refl;
  look_stays = λ at some. refl;
  sensed_stay = λ at some. refl;
}
own_stays start contents tag seen (entry ∷ others) lawful other =
    let past : List Entry = others ++ seen in
    let before : OwnStays start contents tag seen past =
    own_stays start contents tag seen others lawful.0 (All-tail (λ (e : Entry). e.tag.actor ≢ tag.actor) entry others other)
    in
    let apart : entry.tag.actor ≢ tag.actor = All-head (λ (e : Entry). e.tag.actor ≢ tag.actor) entry others other in
    let still : (at : ℕ) → IsSome (own_look tag seen at) → IsSome (own_look tag past at) =
    λ at some. subst (λ (option : Option Look). IsSome option) (sym (before.looks_stay at)) some in
    record {
      looks_stay = λ at. own_after start contents past entry tag lawful.1 apart at ∙ before.looks_stay at;
      senses_stay = λ at some. senses_after start contents past entry tag lawful.1 apart at (still at some) ∙
          before.senses_stay at some;
      faults_stay = λ at some. fault_after start contents past entry tag lawful.1 apart at (still at some) ∙
          before.faults_stay at some;
      recovered_stay = λ at some. recovered_after start contents past entry tag lawful.1 apart at (still at some) ∙
          before.recovered_stay at some;
      uncorrectable_stay = λ at some.
          uncorrectable_after start contents past entry tag lawful.1 apart at (still at some) ∙ before.uncorrectable_stay at
          some;
      look_stays = λ at some. look_after start contents past entry tag lawful.1 apart at (still at some) ∙ before.look_stays
          at some;
      sensed_stay = λ at some. sensed_after start contents past entry tag lawful.1 apart at (still at some) ∙
          before.sensed_stay at some;
    }
