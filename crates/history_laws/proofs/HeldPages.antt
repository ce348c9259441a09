-- What an open look holds fast: the proof of the law of specs/HeldPages.antt.
use Rattle.std.proofs.Common.{◌≡◌, ℕ, ◌+◌, ◌-◌, ◌*◌, ◌≤◌, nat_le, true, false, List, [], ◌∷◌, length, sym, ◌∙◌, arith, All}
use Rattle.std.specs.Prelude.{IsTrue}
use Rattle.std.proofs.lemmas.Bool.Decides.{nat_tests}
use Rattle.std.proofs.lemmas.List.Elements.{All-nil, All-cons, All-append}
use Rattle.ssd_geo.specs.Ladder.{LadderState}
use Rattle.ssd_geo.specs.Stripe.{stripe_of_index}
use Rattle.ssd_geo.specs.declared.base.ChannelBase.{ChannelBase}
use Rattle.ssd_geo.specs.declared.entry.Entry.{Entry}
use Rattle.ssd_geo.specs.declared.kind.Kind.{Kind}
use Rattle.ssd_geo.specs.declared.look.Look.{Look}
use Rattle.ssd_geo.specs.declared.row.Row.{Row}
use Rattle.ssd_geo.specs.declared.tag.Tag.{Tag}
use Rattle.ssd_histories.specs.History.{open_looks}
use Rattle.ssd_histories.specs.Lawful.{IsLawfulBy, IsLawfulKind}
use Rattle.ssd_histories.specs.LookLaws.{is_erase_or_bad_erase_of}
use Rattle.ssd_histories.specs.PastBlocks.{used_of}
use Rattle.ssd_histories.specs.PinnedPages.{KeepsPages}
use Rattle.ssd_histories.specs.Room.{is_stripe_closed}
use Rattle.ssd_histories.proofs.OpenLookLaws.{all_left}
use Rattle.ssd_histories.proofs.PinnedWords.{pinned_pages_stay, spared_keeps}
use Rattle.ssd_histories.proofs.RewrittenRows.{all_by_two, erases_spare_looks}
use Rattle.ssd_histories.proofs.UsedSlots.{Keeps, made, used_kept}
use Rattle.recovery_laws.proofs.StartPages.{starts_have_named_pages}
use Rattle.history_laws.specs.HeldPages.{HoldsFast, OpenLooksHoldFast}
use Rattle.recovery_laws.proofs.HeldLooks.{still_within}

-- the stripe that a look said to be closed is closed
abbrev StripeIsHeld : ChannelBase → List Entry → Tag × Look → Type 0
StripeIsHeld base past pin = IsTrue pin.1.closed → IsTrue (is_stripe_closed base past pin.1.slot)

-- such an entry leaves the stripe closed
stripe_step : (base : ChannelBase) (past : List Entry) (tag : Tag) (kind : Kind) (pin : Tag × Look)
    → is_erase_or_bad_erase_of pin.1.slot.sb kind ≡ false
    → StripeIsHeld base past pin → StripeIsHeld base (made tag kind ∷ past) pin
stripe_step base past tag kind pin spared held closed =
    still_within ((stripe_of_index base.shape.dies pin.1.slot.index + 1) * (base.shape.dies - 1))
    (used_of base past pin.1.slot.sb)
    (used_of base (made tag kind ∷ past) pin.1.slot.sb)
    (used_kept pin.1.slot.sb kind (used_of base past pin.1.slot.sb) (spared_keeps pin.1.slot.sb kind spared)) (held closed)

-- the stripes of all open looks over one more entry
stripes_step : (state : ℕ → LadderState) (base : ChannelBase) (past : List Entry) (tag : Tag) (kind : Kind)
    → IsLawfulKind state base past tag kind
    → All (λ pin. is_erase_or_bad_erase_of pin.1.slot.sb kind ≡ false) (open_looks past)
    → All (StripeIsHeld base past) (open_looks past)
    → All (StripeIsHeld base (made tag kind ∷ past)) (open_looks (made tag kind ∷ past))
stripes_step state base past tag (Kind.Look row (Row.Page slot serial) closed) c spared held =
    let kind : Kind = Kind.Look row (Row.Page slot serial) closed in
    let look : Look = record { at = length past; row = row; slot = slot; serial = serial; closed = closed } in
    All-append (StripeIsHeld base (made tag kind ∷ past)) (open_looks past) ((tag, look) ∷ [])
    (all_by_two (λ pin. is_erase_or_bad_erase_of pin.1.slot.sb kind ≡ false) (StripeIsHeld base past)
    (StripeIsHeld base (made tag kind ∷ past))
    (stripe_step base past tag kind) (open_looks past) spared held)
    (All-cons (StripeIsHeld base (made tag kind ∷ past)) (tag, look) [] (λ said. sym c.is_said ∙ said)
    (All-nil (StripeIsHeld base (made tag kind ∷ past))))
stripes_step state base past tag (Kind.Leave left) c spared held =
    all_left (StripeIsHeld base (made tag (Kind.Leave left) ∷ past)) (open_looks past) left
    (all_by_two (λ pin. is_erase_or_bad_erase_of pin.1.slot.sb (Kind.Leave left) ≡ false) (StripeIsHeld base past)
    (StripeIsHeld base (made tag (Kind.Leave left) ∷ past)) (stripe_step base past tag (Kind.Leave left))
    (open_looks past) spared held)
stripes_step state base past tag kind c spared held =
    all_by_two (λ pin. is_erase_or_bad_erase_of pin.1.slot.sb kind ≡ false) (StripeIsHeld base past)
    (StripeIsHeld base (made tag kind ∷ past))
    (stripe_step base past tag kind) (open_looks past) spared held

-- so does each entry of a lawful past, for all looks that are open after it
stripes_held : (ladder : List Entry → ℕ → LadderState) (base : ChannelBase) (past : List Entry) → IsLawfulBy ladder base past
    → All (StripeIsHeld base past) (open_looks past)
stripes_held ladder base [] lawful = All-nil (StripeIsHeld base [])
stripes_held ladder base (entry ∷ past) lawful =
    stripes_step (ladder past) base past entry.tag entry.kind lawful.1.meets (erases_spare_looks ladder base entry past lawful)
    (stripes_held ladder base past lawful.0)

-- each open look keeps its pages and its stripe
pub open_looks_hold_fast : OpenLooksHoldFast
open_looks_hold_fast ladder coding start contents past is_start lawful =
    all_by_two (KeepsPages coding start contents past) (StripeIsHeld start.base past) (HoldsFast coding start contents past)
    (λ pin keeps held. record { words = keeps.pages; stripe = held }) (open_looks past)
    (pinned_pages_stay ladder coding start contents past (starts_have_named_pages start is_start).has_due_pages lawful)
    (stripes_held ladder start.base past lawful)
