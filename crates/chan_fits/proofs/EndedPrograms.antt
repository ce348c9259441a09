-- What a program of the next slot and an erase of the victim leave, however they ended: the entry that tells of it is lawful,
-- the
-- table stays due, and a fault was counted just by the die that the end names.
use Rattle.std.proofs.Common.{◌≡◌, ◌≢◌, ℕ, ◌<◌, true, false, List, length, sym, subst, Option, Some, None, arith, IsTrue, inl}
use Rattle.std.proofs.Common.{inr}
use Rattle.std.proofs.lemmas.Bool.{cases_eq, cases_lt}
use Rattle.ssd_geo.specs.declared.base.BlockBase.{BlockBase}
use Rattle.ssd_geo.specs.declared.base.ChannelBase.{ChannelBase}
use Rattle.ssd_geo.specs.declared.entry.Entry.{Entry}
use Rattle.ssd_geo.specs.declared.shape.Shape.{Shape}
use Rattle.ssd_geo.specs.declared.slot.Slot.{Slot}
use Rattle.ssd_geo.specs.declared.tag.Tag.{Tag}
use Rattle.ssd_histories.specs.Blocks.{next_slot_of, victim_in, with_erased, with_next_used, with_retired}
use Rattle.ssd_histories.specs.Lawful as Lawful
use Rattle.ssd_histories.specs.Ranges.{has_slot}
use Rattle.ssd_histories.specs.Room.{next_slot, victim_of}
use Rattle.ssd_histories.specs.Start.{Start}
use Rattle.ssd_histories.specs.WeakDies.{dies_in, is_none_weak, may_fail_on}
use Rattle.onfi_cmd.specs.DieState.{DieState}
use Rattle.chan_dies.specs.DiesState.{die_at}
use Rattle.chan_dies.specs.Erasing.{EndsErase}
use Rattle.chan_dies.specs.OneDie.{FaultsDie, RefusesBlock}
use Rattle.chan_dies.specs.Programming.{EndsProgram, StopsProgram}
use Rattle.chan_dies.specs.declared.ends.EraseEnd.{EraseEnd}
use Rattle.chan_dies.specs.declared.ends.ProgramEnd.{ProgramEnd}
use Rattle.chan_fits.specs.DiesFit.{AreDue, DiesFit}
use Rattle.chan_fits.proofs.BlockChanges.{stopped_blocks, unerased_blocks}
use Rattle.chan_fits.proofs.DueAfter.{due_erased, due_programmed}
use Rattle.chan_fits.proofs.DueDies.{due_retired}
use Rattle.chan_fits.proofs.EraseFits.{erased_counted, other_dies_counted}
use Rattle.chan_fits.proofs.FailedFits.{faulted_tells, others_counted, refused_counted, refused_tells, stopped_there}
use Rattle.chan_fits.proofs.ProgramFits.{programmed_counted}
use Rattle.chan_fits.proofs.QuietFits.{StaysCounted, kept_counted, same_counted}
use Rattle.chan_fits.proofs.WeakDies.{AreDiesOf, are_dies_of, erased_none_weak, fault_may_be, programmed_none_weak}
use Rattle.chan_fits.proofs.WeakDies.{refused_is_weak, stopped_may_fail, unerased_may_fail}

-- ---- a program

-- the program of a slot is lawful as it ended
abbrev pub IsLawfulProgram : ChannelBase → List Entry → Slot → ProgramEnd → Type 0
IsLawfulProgram base past slot ProgramEnd.Programmed = Lawful.IsProgrammed base past slot
IsLawfulProgram base past slot (ProgramEnd.Failed die) = Lawful.IsFailedProgram base past slot die false
IsLawfulProgram base past slot (ProgramEnd.Fault die) = Lawful.IsFailedProgram base past slot die true

pub program_is_lawful : (start : Start) (contents : List (Tag × List ℕ)) (past : List Entry) (slot : Slot)
    (word total sum : List ℕ) (old new : List DieState) (end : ProgramEnd)
    → DiesFit start contents past old sum → next_slot start.base past ≡ Some slot → IsTrue (has_slot start.base.shape slot)
    → EndsProgram start.base.shape slot word total old new end → IsLawfulProgram start.base past slot end
program_is_lawful start contents past slot word total sum old new ProgramEnd.Programmed fit next range ends =
    record {
      is_next = next;
      none_weak = programmed_none_weak start contents past slot word total sum old new fit next range
          ends;
    }
program_is_lawful start contents past slot word total sum old new (ProgramEnd.Failed die) fit next range ends = record {
  is_next = next;
  may_fail =
      stopped_may_fail start contents past slot word sum die false (RefusesBlock slot.sb) old new fit next range
      (λ other refuses. refused_is_weak slot.sb old new other refuses) ends;
}
program_is_lawful start contents past slot word total sum old new (ProgramEnd.Fault die) fit next range ends = record {
  is_next = next;
  may_fail =
      stopped_may_fail start contents past slot word sum die true FaultsDie old new fit next range
      (λ other faults. fault_may_be slot.sb old new other faults) ends;
}

-- a program stops at a die of the channel
pub stopped_in_range : (shape : Shape) (slot : Slot) (word : List ℕ) (die : ℕ) (P : DieState → DieState → Type 0)
    (old new : List DieState) → IsTrue (has_slot shape slot)
    → StopsProgram shape slot word die P old new → die < shape.dies
stopped_in_range shape slot word die P old new range stops =
    let dies : AreDiesOf shape slot = are_dies_of shape slot range in
    elim (stops.stops) [
      | inl first ↦ omega (arith, first.is_slot, dies.slot_die)
      | inr second ↦ omega (arith, second.is_parity, dies.parity)
    ]

-- the table after a program, as it ended
abbrev pub blocks_ended : ℕ → Slot → List BlockBase → ProgramEnd → List BlockBase
blocks_ended slots slot blocks ProgramEnd.Programmed = with_next_used slots blocks
blocks_ended slots slot blocks (ProgramEnd.Failed die) = with_retired blocks slot.sb
blocks_ended slots slot blocks (ProgramEnd.Fault die) = with_retired blocks slot.sb

pub due_ended : (slots : ℕ) (shape : Shape) (blocks : List BlockBase) (slot : Slot) (word total : List ℕ)
    (old new : List DieState) (end : ProgramEnd) → length blocks ≡ shape.superblocks
    → next_slot_of blocks ≡ Some slot → IsTrue (has_slot shape slot) → EndsProgram shape slot word total old new end
    → AreDue shape blocks old → AreDue shape (blocks_ended slots slot blocks end) new
due_ended slots shape blocks slot word total old new ProgramEnd.Programmed count next range ends due =
    due_programmed slots shape blocks slot word total old new count next range ends due
due_ended slots shape blocks slot word total old new (ProgramEnd.Failed die) count next range ends due =
    due_retired shape blocks old new slot.sb count
    (λ other lt. stopped_blocks shape slot word die (RefusesBlock slot.sb) old new (refused_tells slot.sb) ends other) due
due_ended slots shape blocks slot word total old new (ProgramEnd.Fault die) count next range ends due =
    due_retired shape blocks old new slot.sb count
    (λ other lt. stopped_blocks shape slot word die FaultsDie old new faulted_tells ends other) due

-- ---- counts

-- a fault was counted by the die that is named, if one is, and else all plans and counts stay
abbrev pub CountsFault : Option ℕ → List DieState → List DieState → Type 0
CountsFault None old new = (die : ℕ) → StaysCounted (die_at old die) (die_at new die)
CountsFault (Some named) old new = FaultsDie (die_at old named) (die_at new named) ×
    ((die : ℕ) → die ≢ named → StaysCounted (die_at old die) (die_at new die))

-- the die whose call failed in a program, if one did, and in an erase
abbrev pub fault_of_program : ProgramEnd → Option ℕ
fault_of_program ProgramEnd.Programmed = None
fault_of_program (ProgramEnd.Failed die) = None
fault_of_program (ProgramEnd.Fault die) = Some die

abbrev pub fault_of_erase : EraseEnd → Option ℕ
fault_of_erase EraseEnd.Erased = None
fault_of_erase (EraseEnd.Failed die) = None
fault_of_erase (EraseEnd.Fault die) = Some die

pub program_counts : (start : Start) (slot : Slot) (word total : List ℕ) (old new : List DieState) (end : ProgramEnd)
    → EndsProgram start.base.shape slot word total old new end
    → CountsFault (fault_of_program end) old new
program_counts start slot word total old new ProgramEnd.Programmed ends = programmed_counted start slot word total old new ends
program_counts start slot word total old new (ProgramEnd.Failed die) ends = refused_counted start slot word die old new ends
program_counts start slot word total old new (ProgramEnd.Fault die) ends =
    (stopped_there start slot word die FaultsDie old new ends, others_counted start slot word die FaultsDie old new ends)

pub erase_counts : (count sb : ℕ) (old new : List DieState) (end : EraseEnd) → EndsErase count sb old new end
    → CountsFault (fault_of_erase end) old new
erase_counts count sb old new EraseEnd.Erased ends = λ die. elim (cases_lt die count) [
  | inl lt ↦ erased_counted count sb old new ends.below die lt
  | inr le ↦ same_counted (die_at old die) (die_at new die) (ends.rest die le)
]
erase_counts count sb old new (EraseEnd.Failed die) ends = λ other. elim (cases_eq other die) [
  | inl here ↦ subst (λ (n : ℕ). StaysCounted (die_at old n) (die_at new n)) (sym here)
      (kept_counted (die_at old die) (die_at new die) ends.stopped.keeps)
  | inr far ↦ other_dies_counted count sb die (RefusesBlock sb) old new ends other far
]
erase_counts count sb old new (EraseEnd.Fault die) ends = (ends.stopped, other_dies_counted count sb die FaultsDie old new ends)

-- ---- an erase

-- the dies in which the victim may be erased, as the erase ended
abbrev pub IsLawfulEnd : ChannelBase → List Entry → ℕ → EraseEnd → Type 0
IsLawfulEnd base past sb EraseEnd.Erased = IsTrue (is_none_weak base past sb (dies_in base))
IsLawfulEnd base past sb (EraseEnd.Failed die) = IsTrue (may_fail_on base past sb (dies_in base) die false)
IsLawfulEnd base past sb (EraseEnd.Fault die) = IsTrue (may_fail_on base past sb (dies_in base) die true)

pub erase_is_lawful : (start : Start) (contents : List (Tag × List ℕ)) (past : List Entry) (sb : ℕ) (sum : List ℕ)
    (old new : List DieState) (end : EraseEnd)
    → DiesFit start contents past old sum → victim_of start.base past ≡ Some sb
    → EndsErase start.base.shape.dies sb old new end → IsLawfulEnd start.base past sb end
erase_is_lawful start contents past sb sum old new EraseEnd.Erased fit victim ends =
    erased_none_weak start contents past sb sum old new fit victim ends
erase_is_lawful start contents past sb sum old new (EraseEnd.Failed die) fit victim ends =
    unerased_may_fail start contents past sb sum die false (RefusesBlock sb) old new fit victim
    (λ other refuses. refused_is_weak sb old new other refuses) ends
erase_is_lawful start contents past sb sum old new (EraseEnd.Fault die) fit victim ends =
    unerased_may_fail start contents past sb sum die true FaultsDie old new fit victim
    (λ other faults. fault_may_be sb old new other faults) ends

-- the table after an erase, as it ended
abbrev pub blocks_erased : ℕ → List BlockBase → EraseEnd → List BlockBase
blocks_erased sb blocks EraseEnd.Erased = with_erased blocks sb
blocks_erased sb blocks (EraseEnd.Failed die) = with_retired blocks sb
blocks_erased sb blocks (EraseEnd.Fault die) = with_retired blocks sb

pub due_erase_ended : (shape : Shape) (blocks : List BlockBase) (sb : ℕ) (old new : List DieState) (end : EraseEnd)
    → length blocks ≡ shape.superblocks → victim_in blocks ≡ Some sb
    → EndsErase shape.dies sb old new end → AreDue shape blocks old → AreDue shape (blocks_erased sb blocks end) new
due_erase_ended shape blocks sb old new EraseEnd.Erased count victim ends due =
    due_erased shape blocks old new sb count victim ends due
due_erase_ended shape blocks sb old new (EraseEnd.Failed die) count victim ends due =
    due_retired shape blocks old new sb count (λ other lt. unerased_blocks shape.dies sb die (RefusesBlock sb) old new
    (refused_tells sb) ends other) due
due_erase_ended shape blocks sb old new (EraseEnd.Fault die) count victim ends due =
    due_retired shape blocks old new sb count (λ other lt. unerased_blocks shape.dies sb die FaultsDie old new faulted_tells
    ends other) due
