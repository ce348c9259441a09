-- Older positions of a past, the looks that were made there, and those of them that are open.
use Rattle.std.proofs.Common.{◌≡◌, ℕ, suc, ◌<◌, ◌==◌, cond, Bool, true, false, List, [], ◌∷◌, length, refl, ap, sym, ◌∙◌, Option, Some, None, arith, All}
use Rattle.std.specs.Prelude.{IsSomeAnd, unwrap_or}
use Rattle.std.proofs.lemmas.Bool.Decides.{nat_tests}
use Rattle.std.proofs.lemmas.List.Elements.{All-nil, All-cons, All-head, All-tail, All-append, All-weaker}
use Rattle.ssd_geo.specs.declared.entry.Entry.{Entry}
use Rattle.ssd_geo.specs.declared.kind.Kind.{Kind}
use Rattle.ssd_geo.specs.declared.look.Look.{Look}
use Rattle.ssd_geo.specs.declared.row.Row.{Row}
use Rattle.ssd_geo.specs.declared.tag.Tag.{Tag}
use Rattle.ssd_histories.specs.History.{is_same_tag, look_by, look_made, look_of, open_look, open_looks}
use Rattle.ssd_histories.specs.OpenLooks.{began_at, look_at}
use Rattle.ssd_histories.proofs.OpenLookLaws.{all_left}
use Rattle.ssd_histories.proofs.UsedSlots.{made}
use Rattle.ssd_histories.proofs.MadeLooks.{made_at}
use Rattle.shared_lemmas.proofs.Tests.{is_other_above, same_number}

-- what is chosen of two, by a test that holds or doesn't
if_holds : {A : Type 0} (b : Bool) (here older : A) → b ≡ true → ◌≡◌ {A = A} (elim b [ true ↦ here | false ↦ older ]) here
if_holds true here older e = refl
if_holds false here older e = absurd (grind arith)

if_fails : {A : Type 0} (b : Bool) (here older : A) → b ≡ false → ◌≡◌ {A = A} (elim b [ true ↦ here | false ↦ older ]) older
if_fails true here older e = absurd (grind arith)
if_fails false here older e = refl

-- the look at an older position, and that of the newest entry
pub older_look : (entry : Entry) (past : List Entry) (at : ℕ) → at < length past → look_of (entry ∷ past) at ≡ look_of past at
older_look entry past at lt =
    if_fails (length past == at) (look_made at entry.kind) (look_of past at) (is_other_above (length past) at lt)

pub newest_look : (entry : Entry) (past : List Entry) → look_of (entry ∷ past) (length past) ≡ look_made (length past) entry.kind
newest_look entry past =
    if_holds (length past == length past) (look_made (length past) entry.kind) (look_of past (length past)) (same_number (length past))

-- which is one of the past's
pub record IsMadeAt (past : List Entry) (at : ℕ) (look : Look) : Type 0 where
  pub below : at < length past
  pub is_at : look.at ≡ at

pub look_is_made_at : (past : List Entry) (at : ℕ) (look : Look) → look_of past at ≡ Some look → IsMadeAt past at look
look_is_made_at [] at look is = absurd (cc)
look_is_made_at (entry ∷ past) at look is = by_test (length past == at) refl (look_is_made_at past at look) is
  where
    this : (n : ℕ) → (n == at) ≡ true → at < suc n
    this n e = grind (arith, nat_tests)

    one_longer : IsMadeAt past at look → IsMadeAt (entry ∷ past) at look
    one_longer before = record { below = omega arith; is_at = before.is_at }

    by_test : (b : Bool) → (length past == at) ≡ b → (look_of past at ≡ Some look → IsMadeAt past at look) →
        ◌≡◌ {A = Option Look} (elim b [ true ↦ look_made at entry.kind | false ↦ look_of past at ]) (Some look) →
        IsMadeAt (entry ∷ past) at look
    by_test true here older made_here = record { below = this (length past) here; is_at = made_at at entry.kind look made_here }
    by_test false there older made_before = one_longer (older made_before)

-- an open look is the look that was made at its position
abbrev pub IsMade : List Entry → Tag × Look → Type 0
IsMade past pin = look_of past pin.1.at ≡ Some pin.1

made_before : (entry : Entry) (past : List Entry) (pin : Tag × Look) → IsMade past pin → IsMade (entry ∷ past) pin
made_before entry past pin is = older_look entry past pin.1.at (look_is_made_at past pin.1.at pin.1 is).below ∙ is

all_made_before : (entry : Entry) (past : List Entry) (pins : List (Tag × Look)) → All (IsMade past) pins → All (IsMade (entry ∷ past)) pins
all_made_before entry past pins all = All-weaker (IsMade past) (IsMade (entry ∷ past)) (made_before entry past) pins all

looks_made : (past : List Entry) (tag : Tag) (kind : Kind) → All (IsMade past) (open_looks past) → All (IsMade (made tag kind ∷ past)) (open_looks (made tag kind ∷ past))
looks_made past tag (Kind.Look row (Row.Page slot serial) closed) all =
    let kind : Kind = Kind.Look row (Row.Page slot serial) closed in
    let look : Look = record { at = length past; row = row; slot = slot; serial = serial; closed = closed } in
    All-append (IsMade (made tag kind ∷ past)) (open_looks past) ((tag, look) ∷ []) (all_made_before (made tag kind) past (open_looks past) all)
    (All-cons (IsMade (made tag kind ∷ past)) (tag, look) [] (newest_look (made tag kind) past) (All-nil (IsMade (made tag kind ∷ past))))
looks_made past tag (Kind.Leave left) all =
    all_left (IsMade (made tag (Kind.Leave left) ∷ past)) (open_looks past) left
    (all_made_before (made tag (Kind.Leave left)) past (open_looks past) all)
looks_made past tag kind all = all_made_before (made tag kind) past (open_looks past) all

pub open_looks_made : (past : List Entry) → All (IsMade past) (open_looks past)
open_looks_made [] = All-nil (IsMade [])
open_looks_made (entry ∷ past) = looks_made past entry.tag entry.kind (open_looks_made past)

-- one of some open looks, with what each of them has, and a fact of it
pub record FoundPin (Has : Tag × Look → Type 0) (Fact : Look → Type 0) (at : ℕ) : Type 0 where
  pub pin : Tag × Look
  pub has : Has pin
  pub is_at : pin.1.at ≡ at
  pub fact : Fact pin.1

pub found_pin : (Has : Tag × Look → Type 0) (Fact : Look → Type 0) (tag : Tag) (at : ℕ) (pins : List (Tag × Look)) → All Has pins →
    IsSomeAnd (look_by tag (look_at pins at)) Fact → FoundPin Has Fact at
found_pin Has Fact tag at [] all some = absurd some
found_pin Has Fact tag at (pin ∷ pins) all some =
    by_test (began_at at pin) refl (found_pin Has Fact tag at pins (All-tail Has pin pins all)) some
  where
    same : (n : ℕ) → (n == at) ≡ true → n ≡ at
    same n e = grind (arith, nat_tests)

    by_tag : (b : Bool) → pin.1.at ≡ at → IsSomeAnd (elim b as (λ x. Option Look) [ true ↦ Some pin.1 | false ↦ None ]) Fact → FoundPin Has Fact at
    by_tag true e fact = record { pin = pin; has = All-head Has pin pins all; is_at = e; fact = fact }
    by_tag false e fact = absurd fact

    by_test : (b : Bool) → began_at at pin ≡ b → (IsSomeAnd (look_by tag (look_at pins at)) Fact → FoundPin Has Fact at) →
        IsSomeAnd (look_by tag (cond b (Some pin) (look_at pins at))) Fact → FoundPin Has Fact at
    by_test true e rest found = by_tag (is_same_tag tag pin.0) (same pin.1.at e) found
    by_test false e rest found = rest found

-- the open look of a step, with a fact of it: it is the look that was made at the position that the step names
pub record StepLook (past : List Entry) (at : ℕ) (Has : Tag × Look → Type 0) (Fact : Look → Type 0) : Type 0 where
  pub pin : Tag × Look
  pub has : Has pin
  pub is_look : look_of past at ≡ Some pin.1
  pub is_at : pin.1.at ≡ at
  pub fact : Fact pin.1

pub step_look : (past : List Entry) (tag : Tag) (at : ℕ) (Has : Tag × Look → Type 0) (Fact : Look → Type 0) → All Has (open_looks past) →
    IsSomeAnd (open_look past tag at) Fact → StepLook past at Has Fact
step_look past tag at Has Fact all some =
    let found : FoundPin (λ pin. Has pin × IsMade past pin) Fact at =
    found_pin (λ pin. Has pin × IsMade past pin) Fact tag at (open_looks past) (both (open_looks past) all (open_looks_made past)) some in
    record {
      pin = found.pin;
      has = found.has.0;
      is_look = ap {B = Option Look} (look_of past) (sym found.is_at) ∙ found.has.1;
      is_at = found.is_at;
      fact = found.fact;
    }
  where
    both : (pins : List (Tag × Look)) → All Has pins → All (IsMade past) pins → All (λ pin. Has pin × IsMade past pin) pins
    both pins h g = λ k d within. (h k d within, g k d within)
