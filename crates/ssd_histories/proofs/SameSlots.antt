-- A slot is found to be itself, and slots that are found to be one are equal.
use Rattle.std.proofs.Common.{◌≡◌, true, arith, ◌∙◌, ap, ◌==◌}
use Rattle.std.proofs.lemmas.Bool.Decides.{nat_tests}
use Rattle.ssd_histories.specs.PageMap.{is_slot, slot_at}
use Rattle.ssd_geo.specs.declared.slot.Slot.{Slot}
use Rattle.std.proofs.lemmas.Bool.{and_parts, eqb-true}

-- a slot is this one
pub is_slot-same : (slot : Slot) → is_slot slot slot ≡ true
is_slot-same slot = grind (arith, nat_tests)

-- two slots that are tested to be one are equal
pub slots_agree : (slot other : Slot) → is_slot slot other ≡ true → slot ≡ other
slots_agree slot other h =
    let parts = and_parts (slot.sb == other.sb) (slot.index == other.index) h in
    let sb : slot.sb ≡ other.sb = eqb-true slot.sb other.sb parts.0 in
    let index : slot.index ≡ other.index = eqb-true slot.index other.index parts.1 in
    ap (λ a. slot_at a slot.index) sb ∙ ap (λ b. slot_at other.sb b) index
