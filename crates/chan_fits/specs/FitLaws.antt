-- What do the dies of a channel hold after one more entry? An entry that programs, erases or ages goes with such a change of
-- the dies, one that tells of a failure with what the dies had done by then, and any other with none. Dies that were changed
-- as an entry says hold what the longer past says. Each law is the contract of a function without a body.
use Rattle.std.specs.Prelude.{ℕ, ◌≡◌, ◌-◌, ◌^◌, ◌<◌, Bool, true, false, IsTrue, IsFalse, List, [], ◌∷◌, length, ℤ, Some, ⊤}
use Rattle.ssd_geo.specs.Bits.{bytes_sum}
use Rattle.ssd_geo.specs.Cells.{sensed}
use Rattle.ssd_geo.specs.Coding.{coding_of, word_bytes_in}
use Rattle.ssd_geo.specs.Ladder.{LadderState}
use Rattle.ssd_geo.specs.StripeSum.{zero_word}
use Rattle.ssd_histories.specs.BlockLaws.{blocks_after}
use Rattle.ssd_histories.specs.Blocks.{block_at, next_slot_of, victim_in}
use Rattle.ssd_histories.specs.Lawful.{IsLawfulBy}
use Rattle.ssd_histories.specs.PastBlocks.{blocks_of, state_of}
use Rattle.ssd_histories.specs.PastPages.{sense_of, senses_of, word_programmed}
use Rattle.ssd_histories.specs.Ranges.{has_place, has_slot}
use Rattle.ssd_histories.specs.SerialCalls.{entry_of}
use Rattle.ssd_histories.specs.Standing.{IsStart}
use Rattle.ssd_histories.specs.Start.{Start}
use Rattle.ssd_histories.specs.States.{is_bad, is_sealed}
use Rattle.ssd_histories.specs.WeakDies.{is_weak}
use Rattle.onfi_cmd.specs.DieState.{DieState}
use Rattle.chan_dies.specs.DiesState.{is_weak_at, levels_at}
use Rattle.chan_dies.specs.Erasing.{CanCountErases, ErasesFirst, StopsErase}
use Rattle.chan_dies.specs.OneDie.{AgesBlock, ChangesDie, FaultsDie, KeepsDie, RefusesBlock}
use Rattle.chan_dies.specs.Programming.{HasNextPages, IsProgrammed, StopsProgram, sum_after}
use Rattle.chan_dies.specs.declared.ends.ProgramEnd.{ProgramEnd}
use Rattle.chan_fits.specs.DiesFit.{AreDue, DiesFit, AreDiesOfStart}
use Rattle.ssd_geo.specs.declared.base.BlockBase.{BlockBase}
use Rattle.ssd_geo.specs.declared.entry.Entry.{Entry}
use Rattle.ssd_geo.specs.declared.kind.Kind.{Kind}
use Rattle.ssd_geo.specs.declared.place.Place.{Place}
use Rattle.ssd_geo.specs.declared.shape.Shape.{Shape}
use Rattle.ssd_geo.specs.declared.slot.Slot.{Slot}
use Rattle.ssd_geo.specs.declared.tag.Tag.{Tag}

-- what happens to a die where a step stops at it: its block answers FAIL, or its call fails
abbrev pub StopsDie : ℕ → Bool → DieState → DieState → Type 0
StopsDie sb false old new = RefusesBlock sb old new
StopsDie sb true old new = FaultsDie old new

-- a word was programmed into a slot, and a program of one stopped at a die; each with what became of the running sum
pub record SlotProgrammed (shape : Shape) (slot : Slot) (word : List ℕ) (old new : List DieState)
    (sum after : List ℕ) : Type 0 where
  pub dies : IsProgrammed shape slot word (bytes_sum word sum) old new
  pub sum_is : after ≡ sum_after shape slot (bytes_sum word sum) ProgramEnd.Programmed

pub record SlotStopped (shape : Shape) (slot : Slot) (word : List ℕ) (die : ℕ) (fault : Bool) (old new : List DieState)
    (after : List ℕ) : Type 0 where
  pub dies : StopsProgram shape slot word die (StopsDie slot.sb fault) old new
  pub sum_is : after ≡ zero_word (word_bytes_in shape)

-- the dies changed so, and the running sum stays
pub record SumStays (P : List DieState → List DieState → Type 0) (old new : List DieState) (sum after : List ℕ) : Type 0 where
  pub dies : P old new
  pub sum_is : after ≡ sum

-- the dies are as they were
abbrev pub AllStay : List DieState → List DieState → Type 0
AllStay old new = new ≡ old

-- the dies and the running sum changed as an entry of a kind says, where it programs this word if it programs one
abbrev pub DiesChange : Shape → Kind → List ℕ → List DieState → List DieState → List ℕ → List ℕ → Type 0
DiesChange shape (Kind.Write row slot) word old new sum after = SlotProgrammed shape slot word old new sum after
DiesChange shape (Kind.Move at slot) word old new sum after = SlotProgrammed shape slot word old new sum after
DiesChange shape (Kind.BadWrite row slot die fault) word old new sum after = SlotStopped shape slot word die fault old new after
DiesChange shape (Kind.BadCopy at slot die fault) word old new sum after = SlotStopped shape slot word die fault old new after
DiesChange shape (Kind.Erase sb) word old new sum after = SumStays (ErasesFirst shape.dies sb) old new sum after
DiesChange shape (Kind.BadErase sb die fault) word old new sum after =
    SumStays (StopsErase shape.dies sb die (StopsDie sb fault)) old new sum after
DiesChange shape (Kind.Sense at place level) word old new sum after = SumStays (ChangesDie place.die KeepsDie) old new sum after
DiesChange shape (Kind.FaultSense at place level) word old new sum after =
    SumStays (ChangesDie place.die FaultsDie) old new sum after
DiesChange shape (Kind.Age die sb amount) word old new sum after =
    SumStays (ChangesDie die (AgesBlock sb amount)) old new sum after
DiesChange shape (Kind.FaultAge die sb amount) word old new sum after = SumStays (ChangesDie die FaultsDie) old new sum after
DiesChange shape _ word old new sum after = SumStays AllStay old new sum after

-- the word that an entry programs, if it programs one
abbrev pub word_of_entry : Start → List (Tag × List ℕ) → List Entry → Tag → Kind → List ℕ
word_of_entry start contents past tag kind =
    let coding = coding_of start.base in
    word_programmed coding start contents (senses_of coding start contents past) past tag kind

-- the dies fit a past with one more lawful entry, where they fitted it before and changed as the entry says
abbrev pub DiesFitAfterEntry : Type 0
DiesFitAfterEntry =
    (ladder : List Entry → ℕ → LadderState) (start : Start) (contents : List (Tag × List ℕ)) (past : List Entry) (tag : Tag)
    (kind : Kind) (word : List ℕ) (old new : List DieState) (sum after : List ℕ) →
    IsStart start → IsLawfulBy ladder start.base (entry_of tag kind ∷ past) →
    word ≡ word_of_entry start contents past tag kind →
    DiesChange start.base.shape kind word old new sum after →
    AreDue start.base.shape (blocks_of start.base past) old → DiesFit start contents past old sum →
    DiesFit start contents (entry_of tag kind ∷ past) new after

-- what a table allows an entry to name: the next slot for a program, the victim for an erase, a superblock that is sealed
-- for a pick, and one of the channel for an ageing
pub record IsNextSlot (shape : Shape) (blocks : List BlockBase) (slot : Slot) : Type 0 where
  pub is_next : next_slot_of blocks ≡ Some slot
  pub in_range : IsTrue (has_slot shape slot)

abbrev pub TableAllows : Shape → List BlockBase → Kind → Type 0
TableAllows shape blocks (Kind.Write row slot) = IsNextSlot shape blocks slot
TableAllows shape blocks (Kind.Move at slot) = IsNextSlot shape blocks slot
TableAllows shape blocks (Kind.BadWrite row slot die fault) = IsNextSlot shape blocks slot
TableAllows shape blocks (Kind.BadCopy at slot die fault) = IsNextSlot shape blocks slot
TableAllows shape blocks (Kind.Erase sb) = victim_in blocks ≡ Some sb
TableAllows shape blocks (Kind.BadErase sb die fault) = victim_in blocks ≡ Some sb
TableAllows shape blocks (Kind.Pick sb) = IsTrue (is_sealed (block_at blocks sb).state)
TableAllows shape blocks (Kind.Age die sb amount) = sb < shape.superblocks
TableAllows shape blocks _ = ⊤

-- a table stays due in the dies, where it allows an entry and the dies changed as that says
abbrev pub DueAfterEntry : Type 0
DueAfterEntry =
    (slots : ℕ) (shape : Shape) (blocks : List BlockBase) (kind : Kind) (word : List ℕ) (old new : List DieState)
    (sum after : List ℕ) →
    length blocks ≡ shape.superblocks → TableAllows shape blocks kind → DiesChange shape kind word old new sum after →
    AreDue shape blocks old → AreDue shape (blocks_after slots kind blocks) new

-- the dies of a start fit it, with its own running sum, and its superblocks are due in them
pub record FitsItsStart (start : Start) (contents : List (Tag × List ℕ)) (dies : List DieState) : Type 0 where
  pub fits : DiesFit start contents [] dies start.base.sum
  pub due : AreDue start.base.shape start.base.blocks dies

abbrev pub DiesFitTheirStart : Type 0
DiesFitTheirStart =
    (start : Start) (contents : List (Tag × List ℕ)) (dies : List DieState) →
    IsStart start → AreDiesOfStart start dies → FitsItsStart start contents dies

-- a sense of a page of the dies gives the bits that the past gives
abbrev pub SensesAreThePasts : Type 0
SensesAreThePasts =
    (start : Start) (contents : List (Tag × List ℕ)) (past : List Entry) (dies : List DieState) (sum : List ℕ)
    (place : Place) (level : ℤ) →
    IsTrue (has_place start.base.shape place) → DiesFit start contents past dies sum →
    sensed level (levels_at dies place) ≡ sense_of (coding_of start.base) start contents past place level

-- a block of a superblock that isn't bad is weak where the past says so
abbrev pub WeakBlocksAreThePasts : Type 0
WeakBlocksAreThePasts =
    (start : Start) (contents : List (Tag × List ℕ)) (past : List Entry) (dies : List DieState) (sum : List ℕ) (die sb : ℕ) →
    DiesFit start contents past dies sum →
    die < start.base.shape.dies → sb < start.base.shape.superblocks → IsFalse (is_bad (state_of start.base past sb)) →
    is_weak_at dies die sb ≡ is_weak start.base past sb die

-- the next slot of a table that is due may be programmed in the dies, and its superblocks that aren't bad can be erased where
-- the table can count that
pub record AllowsSteps (shape : Shape) (blocks : List BlockBase) (dies : List DieState) : Type 0 where
  pub programs : (slot : Slot) → IsNextSlot shape blocks slot → HasNextPages shape slot dies
  pub erases :
      (sb : ℕ) → sb < shape.superblocks → IsFalse (is_bad (block_at blocks sb).state)
      → (block_at blocks sb).erases < 2 ^ 32 - 1 → CanCountErases shape.dies sb dies

abbrev pub DueTablesAllowSteps : Type 0
DueTablesAllowSteps = (shape : Shape) (blocks : List BlockBase) (dies : List DieState) → AreDue shape blocks dies
    → AllowsSteps shape blocks dies
