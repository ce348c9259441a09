-- A program leaves erase counts as they are, and with a slot that isn't the last of its stripe all dies but that of the slot.
use Rattle.std.proofs.Common.{◌≡◌, ℕ, ◌<◌, Bool, true, false, List, [], ◌∷◌, sym, subst, ap, ◌∙◌, refl, inl, inr, arith, lit<}
use Rattle.std.specs.Prelude.{◌≢◌, Option, ℤ}
use Rattle.std.specs.Option.{unwrap_or}
use Rattle.std.proofs.lemmas.Bool.{cases_eq}
use Rattle.ssd_geo.specs.BlockCells.{BlockCells, cells_at}
use Rattle.ssd_geo.specs.Stripe.{is_last_of_stripe, place_of_parity, place_of_slot, stripe_of_index}
use Rattle.ssd_geo.specs.declared.shape.Shape.{Shape}
use Rattle.ssd_geo.specs.declared.slot.Slot.{Slot}
use Rattle.onfi_cmd.specs.DieState.{DieState, with_page}
use Rattle.chan_dies.specs.DiesState.{DiesState, die_at, programmed_at}
use Rattle.chan_dies.specs.OneDie.{FaultsDie, PutsPage, RefusesBlock}
use Rattle.chan_dies.specs.Programming.{EndsProgram, HasNextPages, IsProgrammed, Programs, StopsProgram, page_of_slot, parity_of_slot}
use Rattle.chan_dies.specs.declared.ends.ProgramEnd.{ProgramEnd}
use Rattle.die_tests.specs.SmallDies.{AreTried, AreUnprogrammed, IsSmall, erases_in, pages_in}

-- the two slots of stripe 0
abbrev first : Slot
first = record { sb = 0; index = 0 }

abbrev second : Slot
second = record { sb = 0; index = 1 }

-- a die that isn't that of the slot stays, where the slot isn't the last of its stripe
stopped_others : (shape : Shape) (slot : Slot) (word : List ℕ) (die : ℕ) (P : DieState → DieState → Type 0) (old new : List DieState) →
    StopsProgram shape slot word die P old new → is_last_of_stripe shape.dies slot.index ≡ false →
    (other : ℕ) → other ≢ (page_of_slot shape slot).die → die_at new other ≡ die_at old other
stopped_others shape slot word die P old new stop not_last other apart =
    elim (stop.stops) [
      | inl s ↦ s.others other (λ same. apart (same ∙ s.is_slot))
      | inr s ↦ absurd (let h : is_last_of_stripe shape.dies slot.index ≡ true = s.is_last in cc)
    ]

ended_others : (shape : Shape) (slot : Slot) (word sum : List ℕ) (old new : List DieState) (end : ProgramEnd) →
    EndsProgram shape slot word sum old new end → is_last_of_stripe shape.dies slot.index ≡ false →
    (other : ℕ) → other ≢ (page_of_slot shape slot).die → die_at new other ≡ die_at old other
ended_others shape slot word sum old new ProgramEnd.Programmed did not_last other apart =
    did.others other apart (λ closes. absurd (let h : is_last_of_stripe shape.dies slot.index ≡ true = closes in cc))
ended_others shape slot word sum old new (ProgramEnd.Failed die) did not_last other apart =
    stopped_others shape slot word die (RefusesBlock slot.sb) old new did not_last other apart
ended_others shape slot word sum old new (ProgramEnd.Fault die) did not_last other apart =
    stopped_others shape slot word die FaultsDie old new did not_last other apart

pub others_stay : (old new : DiesState) (slot : Slot) (word : List ℕ) (end : ProgramEnd) → Programs old new slot word end →
    is_last_of_stripe old.shape.dies slot.index ≡ false →
    (other : ℕ) → other ≢ (page_of_slot old.shape slot).die → die_at new.dies other ≡ die_at old.dies other
others_stay old new slot word end did not_last other apart =
    ended_others old.shape slot word _ old.dies new.dies end did.dies not_last other apart

-- a die's erase count of superblock 0 stays
abbrev KeepsErases : DieState → DieState → Type 0
KeepsErases old new = erases_in new ≡ erases_in old

page_keeps : (blocks : List BlockCells) (levels : List ℤ) → (cells_at (with_page blocks 0 levels) 0).erases ≡ (cells_at blocks 0).erases
page_keeps [] levels = refl
page_keeps (block ∷ blocks) levels = refl

put_keeps : (page : ℕ) (word : List ℕ) (old new : DieState) → PutsPage 0 page word old new → KeepsErases old new
put_keeps page word old new puts =
    ap (λ (told : Option (List BlockCells)). (cells_at (unwrap_or told []) 0).erases) puts.holds.told_are
    ∙ page_keeps (unwrap_or old.told []) _

refused_keeps : (old new : DieState) → RefusesBlock 0 old new → KeepsErases old new
refused_keeps old new refuses = ap (λ (told : Option (List BlockCells)). (cells_at (unwrap_or told []) 0).erases) refuses.keeps.told_stay

faulted_keeps : (old new : DieState) → FaultsDie old new → KeepsErases old new
faulted_keeps old new faults = ap (λ (told : Option (List BlockCells)). (cells_at (unwrap_or told []) 0).erases) faults.told_stay

-- a die that stays, and one that is that of a number
same_keeps : (old new : DieState) → new ≡ old → KeepsErases old new
same_keeps old new same = ap (λ (state : DieState). erases_in state) same

keeps_at : (old new : List DieState) (one other : ℕ) → other ≡ one → KeepsErases (die_at old one) (die_at new one) →
    KeepsErases (die_at old other) (die_at new other)
keeps_at old new one other same keeps = subst (λ (die : ℕ). KeepsErases (die_at old die) (die_at new die)) (sym same) keeps

-- the die of the parity, where the slot is the last of its stripe and where it isn't
by_closing : (shape : Shape) (index : ℕ) (word sum : List ℕ) (old new : List DieState) →
    IsProgrammed shape (record { sb = 0; index = index }) word sum old new →
    (last : Bool) → is_last_of_stripe shape.dies index ≡ last → (other : ℕ) →
    other ≢ (page_of_slot shape (record { sb = 0; index = index })).die →
    other ≡ (parity_of_slot shape (record { sb = 0; index = index })).die → KeepsErases (die_at old other) (die_at new other)
by_closing shape index word sum old new did true is other apart same =
    keeps_at old new _ other same (put_keeps _ sum _ _ (did.parity_page is))
by_closing shape index word sum old new did false is other apart same =
    same_keeps _ _ (did.others other apart (λ closes. absurd (let h : is_last_of_stripe shape.dies index ≡ true = closes in cc)))

programmed_keeps : (shape : Shape) (index : ℕ) (word sum : List ℕ) (old new : List DieState) →
    IsProgrammed shape (record { sb = 0; index = index }) word sum old new →
    (other : ℕ) → KeepsErases (die_at old other) (die_at new other)
programmed_keeps shape index word sum old new did other =
    let slot : Slot = record { sb = 0; index = index } in
    elim (cases_eq other (page_of_slot shape slot).die) [
      | inl same ↦ keeps_at old new _ other same (put_keeps _ word _ _ did.slot_page)
      | inr apart ↦ elim (cases_eq other (parity_of_slot shape slot).die) [
        | inl same ↦ by_closing shape index word sum old new did _ refl other apart same
        | inr far ↦ same_keeps _ _ (did.others other apart (λ closes. far))
      ]
    ]

stopped_keeps : (shape : Shape) (index : ℕ) (word : List ℕ) (die : ℕ) (P : DieState → DieState → Type 0) (old new : List DieState) →
    StopsProgram shape (record { sb = 0; index = index }) word die P old new →
    ((before after : DieState) → P before after → KeepsErases before after) →
    (other : ℕ) → KeepsErases (die_at old other) (die_at new other)
stopped_keeps shape index word die P old new stop keeps other =
    let slot : Slot = record { sb = 0; index = index } in
    elim (cases_eq other die) [
      | inl same ↦ elim (stop.stops) [
        | inl s ↦ keeps_at old new die other same (keeps _ _ s.stopped)
        | inr s ↦ keeps_at old new die other same (keeps _ _ s.stopped)
      ]
      | inr apart ↦ elim (stop.stops) [
        | inl s ↦ same_keeps _ _ (s.others other apart)
        | inr s ↦ elim (cases_eq other (page_of_slot shape slot).die) [
          | inl same ↦ keeps_at old new _ other same (put_keeps _ word _ _ s.slot_page)
          | inr far ↦ same_keeps _ _ (s.others other apart far)
        ]
      ]
    ]

ended_keeps : (shape : Shape) (index : ℕ) (word sum : List ℕ) (old new : List DieState) (end : ProgramEnd) →
    EndsProgram shape (record { sb = 0; index = index }) word sum old new end →
    (other : ℕ) → KeepsErases (die_at old other) (die_at new other)
ended_keeps shape index word sum old new ProgramEnd.Programmed did other = programmed_keeps shape index word sum old new did other
ended_keeps shape index word sum old new (ProgramEnd.Failed die) did other =
    stopped_keeps shape index word die (RefusesBlock 0) old new did refused_keeps other
ended_keeps shape index word sum old new (ProgramEnd.Fault die) did other =
    stopped_keeps shape index word die FaultsDie old new did faulted_keeps other

-- the dies stay tried
pub stays_tried : (old new : DiesState) (index : ℕ) (word : List ℕ) (end : ProgramEnd) →
    Programs old new (record { sb = 0; index = index }) word end → AreTried old → AreTried new
stays_tried old new index word end did tried = record {
  small = subst (λ (shape : Shape). IsSmall shape) (sym did.shape_stays) tried.small;
  unworn = λ die within. ended_keeps old.shape index word _ old.dies new.dies end did.dies die ∙ tried.unworn die within;
}

-- where no page of a superblock is programmed, its second slot and the parity have their next pages after the first slot
pub second_next : (old new : DiesState) (word : List ℕ) (end : ProgramEnd) → AreTried old → AreUnprogrammed old →
    Programs old new (record { sb = 0; index = 0 }) word end → HasNextPages new.shape (record { sb = 0; index = 1 }) new.dies
second_next old new word end tried blank did =
    let new_dies : new.shape.dies ≡ 3 = ap (λ (shape : Shape). shape.dies) did.shape_stays ∙ tried.small.dies in
    let open_one : is_last_of_stripe old.shape.dies 0 ≡ false = ap (λ (dies : ℕ). is_last_of_stripe dies 0) tried.small.dies in
    let at_one : (page_of_slot old.shape first).die ≡ 1 = ap (λ (dies : ℕ). (place_of_slot dies first).die) tried.small.dies in
    let other : (die : ℕ) → die ≢ 1 → die < 3 → pages_in (die_at new.dies die) ≡ 0 = λ die apart within.
    ap (λ (state : DieState). pages_in state) (others_stay old new first word end did open_one die (λ same. apart (same ∙ at_one)))
    ∙ blank die within in
    record {
      of_slot = subst (λ (dies : ℕ). (place_of_slot dies second).page ≡ programmed_at new.dies (place_of_slot dies second)) (sym new_dies)
          (sym (other 2 (λ same. absurd (omega arith)) (lit< tt)));
      of_parity = λ closes. subst (λ (dies : ℕ). (place_of_parity dies 0 (stripe_of_index dies 1)).page
          ≡ programmed_at new.dies (place_of_parity dies 0 (stripe_of_index dies 1))) (sym new_dies)
          (sym (other 0 (λ same. absurd (omega arith)) (lit< tt)));
    }
