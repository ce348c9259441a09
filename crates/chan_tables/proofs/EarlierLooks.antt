-- Open looks are those that their entries made, so an open look is found in the past, and a new look at its own position.
use Rattle.std.proofs.Common.{◌≡◌, ℕ, ◌<◌, ◌≤◌, ◌==◌, cond, Bool, true, false, List, [], ◌∷◌, ◌++◌, length, Option, Some, None, refl, sym, ◌∙◌, ap, subst, arith, All}
use Rattle.std.specs.Prelude.{IfSome, unwrap_or}
use Rattle.std.proofs.lemmas.Bool.{eqb-true, eq-eqb}
use Rattle.std.proofs.lemmas.Bool.Decides.{nat_tests}
use Rattle.std.proofs.lemmas.List.Elements.{All-nil, All-cons, All-head, All-tail, All-append, All-weaker}
use Rattle.ssd_histories.specs.History.{is_same_tag, look_by, look_made, look_of, looks_after, open_looks, with_look}
use Rattle.ssd_histories.specs.OpenLooks.{began_at, look_at}
use Rattle.ssd_histories.specs.SerialCalls.{entry_of}
use Rattle.ssd_geo.specs.declared.entry.Entry.{Entry}
use Rattle.ssd_geo.specs.declared.kind.Kind.{Kind}
use Rattle.ssd_geo.specs.declared.look.Look.{Look}
use Rattle.ssd_geo.specs.declared.row.Row.{Row}
use Rattle.ssd_geo.specs.declared.tag.Tag.{Tag}
use Rattle.ssd_histories.proofs.OpenLookLaws.{all_left}
use Rattle.ssd_histories.proofs.MadeLooks.{made_at}
use Rattle.shared_lemmas.proofs.Tests.{is_other}
use Rattle.ssd_histories.proofs.SameTags.{same_tag}

-- a look began before a position
abbrev pub BeganBefore : ℕ → Tag × Look → Type 0
BeganBefore at pin = pin.1.at < at

-- an open look is the one that its entry made, and that entry is in the past
pub record IsMade (past : List Entry) (pin : Tag × Look) : Type 0 where
  pub before : pin.1.at < length past
  pub is_look : look_of past pin.1.at ≡ Some pin.1

-- no look began at a position before which all began
none_before : (at : ℕ) (looks : List (Tag × Look)) → All (BeganBefore at) looks → look_at looks at ≡ None
none_before at [] h = refl
none_before at (pin ∷ looks) h =
    ap (λ (b : Bool). cond b (Some pin) (look_at looks at)) (is_other pin.1.at at (All-head (BeganBefore at) pin looks h))
    ∙ none_before at looks (All-tail (BeganBefore at) pin looks h)

-- where none did, the new one is found
pub found_last : (at : ℕ) (looks : List (Tag × Look)) (pin : Tag × Look) → pin.1.at ≡ at → look_at looks at ≡ None → look_at (looks ++ pin ∷ []) at ≡ Some pin
found_last at [] pin is none = ap (λ (b : Bool). cond b (Some pin) None) (eq-eqb pin.1.at at is)
found_last at (first ∷ looks) pin is none = by_first (began_at at first) refl (λ e. found_last at looks pin is e)
  where
    by_first : (b : Bool) → began_at at first ≡ b → (look_at looks at ≡ None → look_at (looks ++ pin ∷ []) at ≡ Some pin)
        → look_at (first ∷ (looks ++ pin ∷ [])) at ≡ Some pin
    by_first true e rest =
        let found : Some first ≡ None = sym (ap (λ (b : Bool). cond b (Some first) (look_at looks at)) e) ∙ none in
        cc
    by_first false e rest =
        ap (λ (b : Bool). cond b (Some first) (look_at (looks ++ pin ∷ []) at)) e
        ∙ rest (sym (ap (λ (b : Bool). cond b (Some first) (look_at looks at)) e) ∙ none)

-- one more entry makes no look at an earlier position
made_before : (past : List Entry) (entry : Entry) (pin : Tag × Look) → IsMade past pin → IsMade (entry ∷ past) pin
made_before past entry pin made = record {
  before = omega (arith, made.before);
  is_look =
      ap (λ (b : Bool). elim b [ true ↦ look_made pin.1.at entry.kind | false ↦ look_of past pin.1.at ]) (later pin.1.at (length past) made.before)
      ∙ made.is_look;
}
  where
    later : (a b : ℕ) → a < b → (b == a) ≡ false
    later a b h = grind (arith, nat_tests)

all_before : (past : List Entry) (entry : Entry) (looks : List (Tag × Look)) → All (IsMade past) looks → All (IsMade (entry ∷ past)) looks
all_before past entry looks h = All-weaker (IsMade past) (IsMade (entry ∷ past)) (λ pin made. made_before past entry pin made) looks h

-- the look that the newest entry made
made_now : (past : List Entry) (tag : Tag) (kind : Kind) (o : Option Look) (looks : List (Tag × Look)) → look_made (length past) kind ≡ o
    → ((look : Look) → o ≡ Some look → look.at ≡ length past) → All (IsMade (entry_of tag kind ∷ past)) looks → All (IsMade (entry_of tag kind ∷ past)) (with_look tag o looks)
made_now past tag kind None looks e at h = h
made_now past tag kind (Some look) looks e at h =
    All-append (IsMade (entry_of tag kind ∷ past)) looks ((tag, look) ∷ []) h
    (All-cons (IsMade (entry_of tag kind ∷ past)) (tag, look) [] now (All-nil (IsMade (entry_of tag kind ∷ past))))
  where
    here : look.at ≡ length past
    here = at look refl

    now : IsMade (entry_of tag kind ∷ past) (tag, look)
    now = record {
      before = omega (arith, here);
      is_look =
          ap (λ (n : ℕ). elim (length past == n) [ true ↦ look_made n kind | false ↦ look_of past n ]) here
          ∙ ap (λ (b : Bool). elim b [ true ↦ look_made (length past) kind | false ↦ look_of past (length past) ]) (eq-eqb (length past) (length past) refl)
          ∙ e;
    }

made_step : (past : List Entry) (tag : Tag) (kind : Kind) (looks : List (Tag × Look)) → All (IsMade past) looks
    → All (IsMade (entry_of tag kind ∷ past)) (looks_after (length past) tag kind looks)
made_step past tag (Kind.Leave left) looks h = all_left (IsMade (entry_of tag (Kind.Leave left) ∷ past)) looks left (all_before past (entry_of tag (Kind.Leave left)) looks h)
made_step past tag kind looks h =
    made_now past tag kind (look_made (length past) kind) looks refl (λ look e. made_at (length past) kind look e) (all_before past (entry_of tag kind) looks h)

pub all_made : (past : List Entry) → All (IsMade past) (open_looks past)
all_made [] = All-nil (IsMade [])
all_made (entry ∷ past) = made_step past entry.tag entry.kind (open_looks past) (all_made past)

-- so none began at the history's end or later
pub none_later : (past : List Entry) (at : ℕ) → length past ≤ at → look_at (open_looks past) at ≡ None
none_later past at le =
    none_before at (open_looks past)
    (All-weaker (IsMade past) (BeganBefore at) (λ pin made. omega (arith, made.before, le)) (open_looks past) (all_made past))

pub none_began : (past : List Entry) → look_at (open_looks past) (length past) ≡ None
none_began past = none_later past (length past) (omega arith)

-- so an open look is found among those of the past
pub record IsFound (past : List Entry) (at : ℕ) (pin : Tag × Look) : Type 0 where
  pub began : pin.1.at ≡ at
  pub is_look : look_of past at ≡ Some pin.1

found_by : (P : Tag × Look → Type 0) (looks : List (Tag × Look)) (at : ℕ) (pin : Tag × Look) → All P looks → look_at looks at ≡ Some pin → P pin × (pin.1.at ≡ at)
found_by P [] at pin all e = cc
found_by P (first ∷ looks) at pin all e = by_first (began_at at first) refl (λ rest. found_by P looks at pin (All-tail P first looks all) rest)
  where
    by_first : (b : Bool) → began_at at first ≡ b → (look_at looks at ≡ Some pin → P pin × (pin.1.at ≡ at)) → P pin × (pin.1.at ≡ at)
    by_first true f rest =
        let found : Some first ≡ Some pin = sym (ap (λ (b : Bool). cond b (Some first) (look_at looks at)) f) ∙ e in
        let is : first ≡ pin = ap (λ (o : Option (Tag × Look)). unwrap_or o first) found in
        subst (λ (p : Tag × Look). P p × (p.1.at ≡ at)) is (All-head P first looks all, eqb-true first.1.at at f)
    by_first false f rest = rest (sym (ap (λ (b : Bool). cond b (Some first) (look_at looks at)) f) ∙ e)

pub look_found : (past : List Entry) (at : ℕ) (pin : Tag × Look) → look_at (open_looks past) at ≡ Some pin → IsFound past at pin
look_found past at pin e =
    let both : IsMade past pin × (pin.1.at ≡ at) = found_by (IsMade past) (open_looks past) at pin (all_made past) e in
    record { began = both.1; is_look = subst (λ (n : ℕ). look_of past n ≡ Some pin.1) both.1 both.0.is_look }

-- what holds of each open look holds of the one that is found
pub found_has : (P : Tag × Look → Type 0) (looks : List (Tag × Look)) (at : ℕ) (pin : Tag × Look) → All P looks → look_at looks at ≡ Some pin → P pin
found_has P looks at pin all e = (found_by P looks at pin all e).0

pub each_found : (P : Tag × Look → Type 0) (looks : List (Tag × Look)) (at : ℕ) → All P looks → IfSome (look_at looks at) P
each_found P looks at all = by_look (look_at looks at) (λ pin e. found_has P looks at pin all e)
  where
    by_look : (o : Option (Tag × Look)) → ((pin : Tag × Look) → o ≡ Some pin → P pin) → IfSome o P
    by_look None h = tt
    by_look (Some pin) h = h pin refl

pub found_new : (looks : List (Tag × Look)) (tag : Tag) (look : Look) → look_at looks look.at ≡ None
    → look_by tag (look_at (looks ++ (tag, look) ∷ []) look.at) ≡ Some look
found_new looks tag look none =
    ap (look_by tag) (found_last look.at looks (tag, look) refl none)
    ∙ ap (λ (b : Bool). elim b [ true ↦ Some look | false ↦ None ]) (same_tag tag)
