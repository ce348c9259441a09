-- A look that is still to be made has no senses: each sense names an open look, which began before.
use Rattle.std.proofs.Common.{◌≡◌, ℕ, suc, ◌<◌, ◌≤◌, ◌==◌, cond, Bool, true, false, List, [], ◌∷◌, ◌++◌, length, refl, Option, Some, None, arith, All}
use Rattle.std.specs.Prelude.{IsSomeAnd, ℤ}
use Rattle.std.proofs.lemmas.Bool.Decides.{nat_tests}
use Rattle.std.proofs.lemmas.List.Elements.{All-nil, All-cons, All-head, All-tail, All-append}
use Rattle.ssd_geo.specs.declared.entry.Entry.{Entry}
use Rattle.ssd_geo.specs.declared.kind.Kind.{Kind}
use Rattle.ssd_geo.specs.declared.look.Look.{Look}
use Rattle.ssd_geo.specs.declared.place.Place.{Place}
use Rattle.ssd_geo.specs.declared.row.Row.{Row}
use Rattle.ssd_geo.specs.declared.tag.Tag.{Tag}
use Rattle.ssd_geo.specs.Cells.{sensed}
use Rattle.ssd_geo.specs.Coding.{Coding}
use Rattle.ssd_histories.specs.History.{look_by, open_looks}
use Rattle.ssd_geo.specs.Ladder.{LadderState}
use Rattle.ssd_histories.specs.Lawful.{IsLawfulBy, IsLawfulKind, IsLawfulSense}
use Rattle.ssd_histories.specs.OpenLooks.{began_at, look_at}
use Rattle.ssd_histories.specs.PastPages.{levels_in, page_of, senses_of}
use Rattle.ssd_histories.specs.Start.{Start}
use Rattle.ssd_histories.proofs.OpenLookLaws.{all_left}
use Rattle.ssd_histories.proofs.UsedSlots.{made}

-- a look began before a position
abbrev pub BeganBelow : ℕ → Tag × Look → Type 0
BeganBelow position pin = pin.1.at < position

later : (position : ℕ) (pins : List (Tag × Look)) → All (BeganBelow position) pins → All (BeganBelow (suc position)) pins
later position [] h = All-nil (BeganBelow (suc position))
later position (pin ∷ pins) h =
    All-cons (BeganBelow (suc position)) pin pins (one pin.1.at position (All-head (BeganBelow position) pin pins h))
    (later position pins (All-tail (BeganBelow position) pin pins h))
  where
    one : (at n : ℕ) → at < n → at < suc n
    one at n h = omega arith

-- the open looks of a past did, after one more entry too
began_step : (past : List Entry) (tag : Tag) (kind : Kind) → All (BeganBelow (length past)) (open_looks past) → All (BeganBelow (suc (length past))) (open_looks (made tag kind ∷ past))
began_step past tag (Kind.Look row (Row.Page slot serial) closed) h =
    let look : Look = record { at = length past; row = row; slot = slot; serial = serial; closed = closed } in
    All-append (BeganBelow (suc (length past))) (open_looks past) ((tag, look) ∷ []) (later (length past) (open_looks past) h)
    (All-cons (BeganBelow (suc (length past))) (tag, look) [] (newest (length past)) (All-nil (BeganBelow (suc (length past)))))
  where
    newest : (n : ℕ) → n < suc n
    newest n = omega arith
began_step past tag (Kind.Leave left) h =
    all_left (BeganBelow (suc (length past))) (open_looks past) left (later (length past) (open_looks past) h)
began_step past tag kind h = later (length past) (open_looks past) h

pub open_looks_began : (past : List Entry) → All (BeganBelow (length past)) (open_looks past)
open_looks_began [] = All-nil (BeganBelow 0)
open_looks_began (entry ∷ past) = began_step past entry.tag entry.kind (open_looks_began past)

-- the open look that is found at a position began there, so below the past's length
pub found_below : (position at : ℕ) (tag : Tag) (pins : List (Tag × Look)) (P : Look → Type 0) → All (BeganBelow position) pins → IsSomeAnd (look_by tag (look_at pins at)) P → at < position
found_below position at tag [] P h some = absurd some
found_below position at tag (pin ∷ pins) P h some =
    by_test (began_at at pin) refl (found_below position at tag pins P (All-tail (BeganBelow position) pin pins h)) some
  where
    here : (a n : ℕ) → (a == at) ≡ true → a < n → at < n
    here a n e lt = grind (arith, nat_tests)

    by_test : (b : Bool) → began_at at pin ≡ b → (IsSomeAnd (look_by tag (look_at pins at)) P → at < position) → IsSomeAnd (look_by tag (cond b (Some pin) (look_at pins at))) P → at < position
    by_test true e rest found = here pin.1.at position e (All-head (BeganBelow position) pin pins h)
    by_test false e rest found = rest found

-- a sense of another look adds none to a look's senses
other_sense : (named at : ℕ) (asked : Place × ℤ) (some : Place × ℤ → List (List ℕ)) (none : List (List ℕ)) → named < at → none ≡ []
    → ◌≡◌ {A = List (List ℕ)} (elim (elim (named == at) as (λ (b : Bool). Option (Place × ℤ)) [ true ↦ Some asked | false ↦ None ]) [ Some given ↦ some given | None ↦ none ]) []
other_sense named at asked some none lt e = by_test (named == at) (differs named at lt)
  where
    differs : (a b : ℕ) → a < b → (a == b) ≡ false
    differs a b lt = grind (arith, nat_tests)

    by_test : (b : Bool) → b ≡ false
        → ◌≡◌ {A = List (List ℕ)} (elim (elim b as (λ (b : Bool). Option (Place × ℤ)) [ true ↦ Some asked | false ↦ None ]) [ Some given ↦ some given | None ↦ none ]) []
    by_test true f = absurd (cc)
    by_test false f = e

-- one more lawful entry adds no sense to a look that is still to be made
none_step : (state : ℕ → LadderState) (coding : Coding) (start : Start) (contents : List (Tag × List ℕ)) (past : List Entry) (tag : Tag) (kind : Kind) (at : ℕ) → IsLawfulKind state start.base past tag kind
    → length past ≤ at → senses_of coding start contents past at ≡ [] → senses_of coding start contents (made tag kind ∷ past) at ≡ []
none_step state coding start contents past tag (Kind.Sense named place level) at c le e =
    other_sense named at (place, level)
    (λ asked. senses_of coding start contents past at ++ sensed asked.1 (levels_in start.base (page_of coding start contents past asked.0)) ∷ [])
    (senses_of coding start contents past at) (below named (length past) at open_before le) e
  where
    open_before : named < length past
    open_before = found_below (length past) named tag (open_looks past) (λ look. IsLawfulSense (state named) past named place level) (open_looks_began past) c

    below : (a n b : ℕ) → a < n → n ≤ b → a < b
    below a n b h g = omega arith
none_step state coding start contents past tag kind at c le e = e

-- a look at the end of a lawful past has no senses yet
pub none_sensed : (ladder : List Entry → ℕ → LadderState) (coding : Coding) (start : Start) (contents : List (Tag × List ℕ)) (past : List Entry) (at : ℕ) → IsLawfulBy ladder start.base past
    → length past ≤ at → senses_of coding start contents past at ≡ []
none_sensed ladder coding start contents [] at lawful le = refl
none_sensed ladder coding start contents (entry ∷ past) at lawful le =
    none_step (ladder past) coding start contents past entry.tag entry.kind at lawful.1.meets (omega arith)
    (none_sensed ladder coding start contents past at lawful.0 (omega arith))
