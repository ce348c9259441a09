use Rattle.std.proofs.Common.{◌≡◌, ◌<◌, ◌&&◌, ℕ, length, nat_lt, sym, ◌∙◌, subst, Option, Some, true, arith}
use Rattle.std.specs.Prelude.{IfSome}
use Rattle.std.proofs.lemmas.Bool.Decides.{nat_tests}
use Rattle.ssd_histories.specs.Blocks.{next_slot_of}
use Rattle.ssd_geo.specs.declared.slot.Slot.{Slot}
use Rattle.chan_tables.specs.TablesState.{TablesState}
use Rattle.chan_tables.proofs.Fits.{fit_slot}
use Rattle.chan_tables.proofs.UsedRows.{none_names_next}
use Rattle.chan_tables.proofs.tables.Tables.use_slot.Goals as goal

both_less : (a b c d : ℕ) → a < b → c < d → (nat_lt a b && nat_lt c d) ≡ true
both_less a b c d h g = grind (arith, nat_tests)

pub set-requires-clause-slot_in_range : goal.set-requires-clause-slot_in_range
set-requires-clause-slot_in_range c =
    let was = c.self.inside in
    let next : next_slot_of was.blocks.blocks ≡ Some c.args.slot = subst (λ (s : TablesState). next_slot_of s.blocks ≡ Some c.args.slot) (sym c.self.view_is) c.requires.next in
    let within : (c.args.slot.sb < length was.blocks.blocks) × (c.args.slot.index < was.blocks.slots) =
    subst (λ (o : Option Slot). IfSome o (λ slot. (slot.sb < length was.blocks.blocks) × (slot.index < was.blocks.slots))) (c.next_slot.ensures.slot ∙ next) c.next_slot.ensures.in_range in
    both_less c.args.slot.sb was.rows.superblocks c.args.slot.index was.rows.slots
    (omega (arith, within.0, c.self.invariant.map_superblocks, c.self.invariant.blocks_count))
    (omega (arith, within.1, c.self.invariant.map_slots, c.self.invariant.blocks_slots))

pub set-requires-clause-unnamed : goal.set-requires-clause-unnamed
set-requires-clause-unnamed c =
    let was = c.self.inside in
    let next : next_slot_of was.blocks.blocks ≡ Some c.args.slot = subst (λ (s : TablesState). next_slot_of s.blocks ≡ Some c.args.slot) (sym c.self.view_is) c.requires.next in
    none_names_next was.blocks.blocks was.rows.rows c.args.row c.args.slot c.args.serial next c.self.invariant.names_used

pub invariant_of-self : goal.invariant_of-self
invariant_of-self c =
    let was = c.self.inside in
    let next : next_slot_of was.blocks.blocks ≡ Some c.args.slot = subst (λ (s : TablesState). next_slot_of s.blocks ≡ Some c.args.slot) (sym c.self.view_is) c.requires.next in
    let within : (c.args.slot.sb < length was.blocks.blocks) × (c.args.slot.index < was.blocks.slots) =
    subst (λ (o : Option Slot). IfSome o (λ slot. (slot.sb < length was.blocks.blocks) × (slot.index < was.blocks.slots))) (c.next_slot.ensures.slot ∙ next) c.next_slot.ensures.in_range in
    rw (c.set.ensures.after, c.take_slot.ensures.after)
    (fit_slot was.shape was.session was.rows was.blocks was.looks was.history c.args.row c.args.slot c.args.serial c.self.invariant next within.0)
