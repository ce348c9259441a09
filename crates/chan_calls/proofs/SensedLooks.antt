-- One more sense of an open look: the look stays as it is, and has one sense more.
use Rattle.std.proofs.Common.{◌≡◌, ℕ, suc, ◌+◌, ◌<◌, ◌==◌, cond, Bool, true, false, List, [], ◌∷◌, ◌++◌, length, Option, Some, None, refl, sym, ap, ◌∙◌, arith}
use Rattle.std.specs.Prelude.{IsSome, ℤ}
use Rattle.std.proofs.lemmas.Bool.Decides.{nat_tests}
use Rattle.std.proofs.lemmas.List.Sums.{sum_by-cons}
use Rattle.chan_tables.specs.TablesState.{senses_had}
use Rattle.ssd_histories.specs.CallSteps.{is_sense_of}
use Rattle.ssd_geo.specs.Cells.{sensed}
use Rattle.ssd_geo.specs.Coding.{Coding, coding_of}
use Rattle.ssd_geo.specs.Ladder.{ladder_over}
use Rattle.ssd_histories.specs.History.{look_by, look_made, look_of, open_looks}
use Rattle.ssd_histories.specs.OpenLooks.{look_at}
use Rattle.ssd_histories.specs.PastPages.{ladder_of, levels_in, page_of, sense_for, sense_of, senses_of}
use Rattle.ssd_histories.specs.SerialCalls.{entry_of}
use Rattle.ssd_histories.specs.Start.{Start}
use Rattle.ssd_geo.specs.declared.entry.Entry.{Entry}
use Rattle.ssd_geo.specs.declared.kind.Kind.{Kind}
use Rattle.ssd_geo.specs.declared.look.Look.{Look}
use Rattle.ssd_geo.specs.declared.place.Place.{Place}
use Rattle.ssd_geo.specs.declared.tag.Tag.{Tag}
use Rattle.chan_calls.specs.Caller.{LookStays, own_look}
use Rattle.chan_tables.proofs.EarlierLooks.{look_found}
use Rattle.shared_lemmas.proofs.Tests.{is_other_above, same_number}

-- a look began before the end of its past
pub look_began : (past : List Entry) (at : ℕ) (look : Look) → look_of past at ≡ Some look →
    at < length past
look_began [] at look is = absurd (cc)
look_began (entry ∷ past) at look is = by_test (length past == at) refl (look_began past at look) is
  where
    by_test : (b : Bool) → (length past == at) ≡ b → (look_of past at ≡ Some look →
        at < length past) →
        elim b [ true ↦ look_made at entry.kind | false ↦ look_of past at ] ≡ Some look →
        at < suc (length past)
    by_test true e before found = grind (arith, nat_tests)
    by_test false e before found =
        let below : at < length past = before found in
        omega arith

-- an open look of a call began before the end of its past too
pub own_began : (past : List Entry) (tag : Tag) (at : ℕ) → IsSome (own_look tag past at) →
    at < length past
own_began past tag at own = by_look (look_at (open_looks past) at) refl own
  where
    by_look : (found : Option (Tag × Look)) → look_at (open_looks past) at ≡ found →
        IsSome (look_by tag found) → at < length past
    by_look None e is = absurd (cc)
    by_look (Some pin) e is = look_began past at pin.1 (look_found past at pin e).is_look

-- what an entry made later is another look
pub look_after : (past : List Entry) (tag : Tag) (kind : Kind) (at : ℕ) → at < length past →
    look_of (entry_of tag kind ∷ past) at ≡ look_of past at
look_after past tag kind at began =
    ap (λ (b : Bool). elim b [ true ↦ look_made at kind | false ↦ look_of past at ])
    (is_other_above (length past) at began)

-- so a ladder stays where it is after an entry that is no sense of its look
pub ladder_after : (coding : Coding) (start : Start) (contents : List (Tag × List ℕ))
    (past : List Entry) (tag : Tag) (kind : Kind) (at : ℕ) → at < length past →
    sense_for at kind ≡ None →
    ladder_of coding start contents (entry_of tag kind ∷ past) at ≡ ladder_of coding start contents
    past at
ladder_after coding start contents past tag kind at began none =
    ap (λ (look : Option Look). ladder_over coding start.base.shape.dies look
    (senses_of coding start contents (entry_of tag kind ∷ past) at))
    (look_after past tag kind at began)
    ∙ ap (λ (o : Option (Place × ℤ)). ladder_over coding start.base.shape.dies (look_of past at)
    (elim o as (λ (o : Option (Place × ℤ)). List (List ℕ)) [
      | Some asked ↦ senses_of coding start contents past at ++ sensed asked.1
          (levels_in start.base (page_of coding start contents past asked.0)) ∷ []
      | None ↦ senses_of coding start contents past at
    ])) none

-- and where the look and what it sensed are the same, so is its ladder
pub ladder_stays : (start : Start) (contents : List (Tag × List ℕ)) (seen now : List Entry)
    (at : ℕ) → LookStays start contents seen now at →
    ladder_of (coding_of start.base) start contents now at
    ≡ ladder_of (coding_of start.base) start contents seen at
ladder_stays start contents seen now at stays =
    ap (λ (look : Option Look). ladder_over (coding_of start.base) start.base.shape.dies look
    (senses_of (coding_of start.base) start contents now at)) stays.look_stays
    ∙ ap (ladder_over (coding_of start.base) start.base.shape.dies (look_of seen at))
    stays.sensed_stays

-- one more sense is counted
pub had_after_sense : (past : List Entry) (tag : Tag) (at : ℕ) (place : Place) (level : ℤ) →
    senses_had (entry_of tag (Kind.Sense at place level) ∷ past) at ≡ suc (senses_had past at)
had_after_sense past tag at place level =
    sum_by-cons (λ (e : Entry). cond (is_sense_of at e.kind) 1 0)
    (entry_of tag (Kind.Sense at place level)) past
    ∙ ap (λ (b : Bool). cond b 1 0 + senses_had past at) (same_number at)
    ∙ one_more (senses_had past at)
  where
    one_more : (n : ℕ) → 1 + n ≡ suc n
    one_more n = omega arith

-- and given after the others
pub senses_after_sense : (coding : Coding) (start : Start) (contents : List (Tag × List ℕ))
    (past : List Entry) (tag : Tag) (at : ℕ) (place : Place) (level : ℤ) →
    senses_of coding start contents (entry_of tag (Kind.Sense at place level) ∷ past) at
    ≡ senses_of coding start contents past at ++ sense_of coding start contents past place level
    ∷ []
senses_after_sense coding start contents past tag at place level =
    let before : List (List ℕ) = senses_of coding start contents past at in
    ap (λ (b : Bool). elim (elim b as (λ (b : Bool). Option (Place × ℤ))
    [ true ↦ Some (place, level) | false ↦ None ])
    as (λ (o : Option (Place × ℤ)). List (List ℕ)) [
      | Some asked ↦ before ++ sensed asked.1 (levels_in start.base
          (page_of coding start contents past asked.0)) ∷ []
      | None ↦ before
    ]) (same_number at)

-- a look for which no sense was made has none
none_step : (coding : Coding) (start : Start) (contents : List (Tag × List ℕ)) (past : List Entry)
    (tag : Tag) (kind : Kind) (at : ℕ) → is_sense_of at kind ≡ false →
    senses_of coding start contents past at ≡ [] → senses_of coding start contents
    (entry_of tag kind ∷ past) at ≡ []
none_step coding start contents past tag (Kind.Sense named place level) at other_look none =
    ap (λ (b : Bool). elim (elim b as (λ (b : Bool). Option (Place × ℤ))
    [ true ↦ Some (place, level) | false ↦ None ])
    as (λ (o : Option (Place × ℤ)). List (List ℕ)) [
      | Some asked ↦ senses_of coding start contents past at ++ sensed asked.1
          (levels_in start.base (page_of coding start contents past asked.0)) ∷ []
      | None ↦ senses_of coding start contents past at
    ]) other_look ∙ none
none_step coding start contents past tag kind at other_look none = none

not_counted : (b : Bool) (n : ℕ) → cond b 1 0 + n ≡ 0 → b ≡ false
not_counted true n h = absurd (omega arith)
not_counted false n h = refl

rest_none : (b : Bool) (n : ℕ) → cond b 1 0 + n ≡ 0 → n ≡ 0
rest_none true n h = absurd (omega arith)
rest_none false n h = omega arith

pub none_given : (coding : Coding) (start : Start) (contents : List (Tag × List ℕ))
    (past : List Entry) (at : ℕ) → senses_had past at ≡ 0 →
    senses_of coding start contents past at ≡ []
none_given coding start contents [] at none = refl
none_given coding start contents (entry ∷ past) at none =
    let counted : cond (is_sense_of at entry.kind) 1 0 + senses_had past at ≡ 0 =
    sym (sum_by-cons (λ (e : Entry). cond (is_sense_of at e.kind) 1 0) entry past) ∙ none in
    none_step coding start contents past entry.tag entry.kind at
    (not_counted (is_sense_of at entry.kind) (senses_had past at) counted)
    (none_given coding start contents past at (rest_none (is_sense_of at entry.kind)
    (senses_had past at) counted))
