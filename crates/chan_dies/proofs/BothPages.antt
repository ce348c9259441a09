-- What the programs of a slot's page and then of its parity's page leave together.
use Rattle.std.proofs.Common.{◌≡◌, ℕ, ◌≢◌, List, sym, subst, ap, ◌∙◌, inr, refl}
use Rattle.ssd_geo.specs.Stripe.{parity_die, place_of_parity, stripe_of_index}
use Rattle.ssd_geo.specs.declared.place.Place.{Place}
use Rattle.ssd_geo.specs.declared.shape.Shape.{Shape}
use Rattle.ssd_geo.specs.declared.slot.Slot.{Slot}
use Rattle.ssd_geo.proofs.Stripes.{data_die-differs}
use Rattle.onfi_cmd.specs.DieState.{DieState}
use Rattle.chan_dies.specs.DiesState.{die_at}
use Rattle.chan_dies.specs.OneDie.{ChangesDie, PutsPage}
use Rattle.chan_dies.specs.Programming.{ClosesStripe, IsProgrammed, PutsAt, StopsProgram, page_of_slot, parity_of_slot}

-- a page was programmed with a word, and nothing else happened
abbrev pub PutsOnly : Place → List ℕ → List DieState → List DieState → Type 0
PutsOnly place word old new = ChangesDie place.die (PutsPage place.sb place.page word) old new

-- the slot's die isn't the parity's
apart : (shape : Shape) (slot : Slot) → (page_of_slot shape slot).die ≢ (parity_of_slot shape slot).die
apart shape slot = data_die-differs (parity_die shape.dies slot.sb (stripe_of_index shape.dies slot.index)) _

-- the slot's page stays programmed where only the parity's die changes
slot_page_stays : (shape : Shape) (slot : Slot) (word : List ℕ) (P : DieState → DieState → Type 0) (old mid new : List DieState) →
    PutsOnly (page_of_slot shape slot) word old mid → ChangesDie (parity_of_slot shape slot).die P mid new →
    PutsAt (page_of_slot shape slot) word old new
slot_page_stays shape slot word P old mid new first second =
    let place = page_of_slot shape slot in
    subst (λ (state : DieState). PutsPage place.sb place.page word (die_at old place.die) state)
    (sym (second.others place.die (apart shape slot))) first.changed

-- what becomes of the parity's die becomes of it as it was before the slot's page was programmed
parity_from_old : (shape : Shape) (slot : Slot) (word : List ℕ) (P : DieState → DieState → Type 0) (old mid new : List DieState) →
    PutsOnly (page_of_slot shape slot) word old mid → ChangesDie (parity_of_slot shape slot).die P mid new →
    P (die_at old (parity_of_slot shape slot).die) (die_at new (parity_of_slot shape slot).die)
parity_from_old shape slot word P old mid new first second =
    let parity = parity_of_slot shape slot in
    subst (λ (state : DieState). P state (die_at new parity.die))
    (first.others parity.die (λ same. apart shape slot (sym same))) second.changed

-- both pages were programmed
both : (shape : Shape) (slot : Slot) (word sum : List ℕ) (old mid new : List DieState) → ClosesStripe shape slot →
    PutsOnly (page_of_slot shape slot) word old mid → PutsOnly (parity_of_slot shape slot) sum mid new →
    IsProgrammed shape slot word sum old new
both shape slot word sum old mid new closes first second =
    let parity = parity_of_slot shape slot in
    let Puts : DieState → DieState → Type 0 = PutsPage parity.sb parity.page sum in
    record {
      count_stays = second.count_stays ∙ first.count_stays;
      slot_page = slot_page_stays shape slot word Puts old mid new first second;
      parity_page = λ _. parity_from_old shape slot word Puts old mid new first second;
      others = λ other not_slot not_parity. second.others other (not_parity closes) ∙ first.others other not_slot;
    }

-- the program of the parity's page stopped
stopped : (shape : Shape) (slot : Slot) (word : List ℕ) (P : DieState → DieState → Type 0) (old mid new : List DieState) → ClosesStripe shape slot →
    PutsOnly (page_of_slot shape slot) word old mid → ChangesDie (parity_of_slot shape slot).die P mid new →
    StopsProgram shape slot word (parity_of_slot shape slot).die P old new
stopped shape slot word P old mid new closes first second = record {
  count_stays = second.count_stays ∙ first.count_stays;
  stops = inr (record {
    is_last = closes;
    is_parity = refl;
    slot_page = slot_page_stays shape slot word P old mid new first second;
    stopped = parity_from_old shape slot word P old mid new first second;
    others = λ other not_parity not_slot. second.others other not_parity ∙ first.others other not_slot;
  });
}

-- the places that were used are those of the slot and of its parity
pub record IsFor (shape : Shape) (slot : Slot) (place parity : Place) : Type 0 where
  pub closes : ClosesStripe shape slot
  pub place_is : place ≡ page_of_slot shape slot
  pub parity_is : parity ≡ place_of_parity shape.dies slot.sb place.page

parity_place : (shape : Shape) (slot : Slot) (place parity : Place) → IsFor shape slot place parity → parity ≡ parity_of_slot shape slot
parity_place shape slot place parity is_for =
    is_for.parity_is ∙ ap {B = Place} (λ (p : Place). place_of_parity shape.dies slot.sb p.page) is_for.place_is

pub both_programmed : (shape : Shape) (slot : Slot) (word sum : List ℕ) (place parity : Place) (old mid new : List DieState) →
    IsFor shape slot place parity → PutsOnly place word old mid → PutsOnly parity sum mid new → IsProgrammed shape slot word sum old new
both_programmed shape slot word sum place parity old mid new is_for first second =
    both shape slot word sum old mid new is_for.closes
    (subst (λ (p : Place). PutsOnly p word old mid) is_for.place_is first)
    (subst (λ (p : Place). PutsOnly p sum mid new) (parity_place shape slot place parity is_for) second)

pub stopped_at_parity : (shape : Shape) (slot : Slot) (word : List ℕ) (place parity : Place) (P : ℕ → DieState → DieState → Type 0)
    (old mid new : List DieState) → IsFor shape slot place parity → PutsOnly place word old mid → ChangesDie parity.die (P parity.sb) mid new →
    StopsProgram shape slot word parity.die (P slot.sb) old new
stopped_at_parity shape slot word place parity P old mid new is_for first second =
    let is_parity = parity_place shape slot place parity is_for in
    subst (λ (p : Place). StopsProgram shape slot word p.die (P slot.sb) old new) (sym is_parity)
    (stopped shape slot word (P slot.sb) old mid new is_for.closes
    (subst (λ (p : Place). PutsOnly p word old mid) is_for.place_is first)
    (subst (λ (p : Place). ChangesDie p.die (P p.sb) mid new) is_parity second))
