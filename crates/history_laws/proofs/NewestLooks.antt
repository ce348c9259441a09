-- The look that was made last: it is open, none of its senses failed, and once it is left the others are open.
use Rattle.std.proofs.Common.{◌≡◌, ℕ, ◌<◌, ◌≤◌, ◌==◌, ◌&&◌, ◌||◌, cond, Bool, true, false, List, [], ◌∷◌, ◌++◌, length, refl, ap, ◌∙◌, Option, Some, None, arith, All}
use Rattle.std.proofs.lemmas.Bool.Decides.{nat_tests}
use Rattle.std.proofs.lemmas.List.Elements.{All-head, All-tail, All-weaker}
use Rattle.ssd_geo.specs.Ladder.{LadderState}
use Rattle.ssd_geo.specs.declared.base.ChannelBase.{ChannelBase}
use Rattle.ssd_geo.specs.declared.entry.Entry.{Entry}
use Rattle.ssd_geo.specs.declared.kind.Kind.{Kind}
use Rattle.ssd_geo.specs.declared.look.Look.{Look}
use Rattle.ssd_geo.specs.declared.tag.Tag.{Tag}
use Rattle.ssd_histories.specs.History.{is_same_tag, look_by, open_looks}
use Rattle.ssd_histories.specs.Lawful.{IsLawfulBy, IsLawfulKind, IsLawfulSense, has_fault_sense, is_fault_sense_of}
use Rattle.ssd_histories.specs.OpenLooks.{began_at, look_at, without_look}
use Rattle.recovery_laws.proofs.Pasts.{IsMade, StepLook, look_is_made_at, open_looks_made, step_look}
use Rattle.shared_lemmas.proofs.Tests.{is_other, same_number}
use Rattle.ssd_histories.proofs.SameTags.{same_tag}

-- each open look began before now
looks_below : (past : List Entry) → All (λ pin. pin.1.at < length past) (open_looks past)
looks_below past =
    All-weaker (IsMade past) (λ pin. pin.1.at < length past) (λ pin is. (look_is_made_at past pin.1.at pin.1 is).below)
    (open_looks past) (open_looks_made past)

-- what is chosen by a test that holds, and by one that fails
chosen_here : {A : Type 0} (b : Bool) (here other : A) → b ≡ true → ◌≡◌ {A = A} (cond b here other) here
chosen_here true here other e = refl
chosen_here false here other e = absurd (grind arith)

chosen_other : {A : Type 0} (b : Bool) (here other : A) → b ≡ false → ◌≡◌ {A = A} (cond b here other) other
chosen_other true here other e = absurd (grind arith)
chosen_other false here other e = refl

-- the last of some looks is found at its position, and is the one that goes when it is left
last_found : (pins : List (Tag × Look)) (pin : Tag × Look) → All (λ other. other.1.at < pin.1.at) pins
    → look_at (pins ++ pin ∷ []) pin.1.at ≡ Some pin
last_found [] pin all = chosen_here (began_at pin.1.at pin) (Some pin) None (same_number pin.1.at)
last_found (first ∷ pins) pin all =
    chosen_other (began_at pin.1.at first) (Some first) (look_at (pins ++ pin ∷ []) pin.1.at)
    (is_other first.1.at pin.1.at (All-head (λ (other : Tag × Look). other.1.at < pin.1.at) first pins all))
    ∙ last_found pins pin (All-tail (λ (other : Tag × Look). other.1.at < pin.1.at) first pins all)

last_left : (pins : List (Tag × Look)) (pin : Tag × Look) → All (λ other. other.1.at < pin.1.at) pins
    → without_look (pins ++ pin ∷ []) pin.1.at ≡ pins
last_left [] pin all = chosen_here (began_at pin.1.at pin) [] (pin ∷ []) (same_number pin.1.at)
last_left (first ∷ pins) pin all =
    chosen_other (began_at pin.1.at first) (pins ++ pin ∷ []) (first ∷ without_look (pins ++ pin ∷ []) pin.1.at)
    (is_other first.1.at pin.1.at (All-head (λ (other : Tag × Look). other.1.at < pin.1.at) first pins all))
    ∙ ap {B = List (Tag × Look)} (λ (rest : List (Tag × Look)). first ∷ rest)
    (last_left pins pin (All-tail (λ (other : Tag × Look). other.1.at < pin.1.at) first pins all))

-- the look made last, beside those open before
pub newest_is_open : (past : List Entry) (tag : Tag) (look : Look) → look.at ≡ length past
    → look_by tag (look_at (open_looks past ++ (tag, look) ∷ []) look.at) ≡ Some look
newest_is_open past tag look at =
    ap {B = Option Look} (look_by tag) (last_found (open_looks past) (tag, look) (below past look at))
    ∙ by_tag (is_same_tag tag tag) (same_tag tag)
  where
    by_tag : (b : Bool) → b ≡ true → ◌≡◌ {A = Option Look} (elim b [ true ↦ Some look | false ↦ None ]) (Some look)
    by_tag true e = refl
    by_tag false e = absurd (grind arith)

    below : (past : List Entry) (look : Look) → look.at ≡ length past → All (λ pin. pin.1.at < look.at) (open_looks past)
    below past look at =
        All-weaker (λ pin. pin.1.at < length past) (λ pin. pin.1.at < look.at) (λ pin lt. omega (arith, lt, at))
        (open_looks past) (looks_below past)

pub newest_is_left : (past : List Entry) (tag : Tag) (look : Look) → look.at ≡ length past
    → without_look (open_looks past ++ (tag, look) ∷ []) look.at ≡ open_looks past
newest_is_left past tag look at =
    last_left (open_looks past) (tag, look)
    (All-weaker (λ pin. pin.1.at < length past) (λ pin. pin.1.at < look.at) (λ pin lt. omega (arith, lt, at))
    (open_looks past) (looks_below past))

-- no sense of a look that comes later failed
neither : (a b : Bool) → a ≡ false → b ≡ false → (a || b) ≡ false
neither true b e f = absurd (grind arith)
neither false b e f = f

-- an entry before a look's position is no failed sense of it
fault_before : (state : ℕ → LadderState) (base : ChannelBase) (past : List Entry) (tag : Tag) (kind : Kind) (at : ℕ)
    → IsLawfulKind state base past tag kind
    → length past < at → is_fault_sense_of at kind ≡ false
fault_before state base past tag (Kind.FaultSense named place level) at c later =
    let step : StepLook past named (λ pin. Unit {0}) (λ look. IsLawfulSense (state named) past named place level) =
    step_look past tag named (λ pin. Unit {0}) (λ look. IsLawfulSense (state named) past named place level)
    (λ k d within. tt) c in
    is_other named at (omega (arith, later, (look_is_made_at past named step.pin.1 step.is_look).below))
fault_before state base past tag kind at c later = refl

-- so no entry of a lawful past is
pub no_fault_later : (ladder : List Entry → ℕ → LadderState) (base : ChannelBase) (past : List Entry) (at : ℕ)
    → IsLawfulBy ladder base past → length past ≤ at
    → has_fault_sense past at ≡ false
no_fault_later ladder base [] at lawful later = refl
no_fault_later ladder base (entry ∷ past) at lawful later =
    neither (is_fault_sense_of at entry.kind) (has_fault_sense past at)
    (fault_before (ladder past) base past entry.tag entry.kind at lawful.1.meets (omega arith))
    (no_fault_later ladder base past at lawful.0 (omega arith))
