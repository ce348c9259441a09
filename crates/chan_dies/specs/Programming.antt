-- What becomes of the dies where a word is programmed into a slot? The slot's page takes the word, and with the last slot of
-- a stripe the parity's page takes the sum of the stripe's words. A program that stops retires the superblock, so
-- that no stripe is open after it.
use Rattle.std.specs.Prelude.{ℕ, ◌≡◌, ◌≢◌, ◌⊎◌, IsTrue, Bool, false, not, List, length, if◌then◌else◌}
use Rattle.ssd_geo.specs.Bits.{bytes_sum}
use Rattle.ssd_geo.specs.Coding.{word_bytes_in}
use Rattle.ssd_geo.specs.Stripe.{is_last_of_stripe, place_of_parity, place_of_slot, stripe_of_index}
use Rattle.ssd_geo.specs.StripeSum.{zero_word}
use Rattle.ssd_geo.specs.declared.place.Place.{Place}
use Rattle.ssd_geo.specs.declared.shape.Shape.{Shape}
use Rattle.ssd_geo.specs.declared.slot.Slot.{Slot}
use Rattle.onfi_cmd.specs.DieState.{DieState}
use Rattle.chan_dies.specs.DiesState.{DiesState, die_at, programmed_at}
use Rattle.chan_dies.specs.OneDie.{FaultsDie, OthersStay, PutsPage, RefusesBlock}
use Rattle.chan_dies.specs.declared.ends.ProgramEnd.{ProgramEnd}

-- the place of a slot's page, and that of its stripe's parity
abbrev pub page_of_slot : Shape → Slot → Place
page_of_slot shape slot = place_of_slot shape.dies slot

abbrev pub parity_of_slot : Shape → Slot → Place
parity_of_slot shape slot = place_of_parity shape.dies slot.sb (stripe_of_index shape.dies slot.index)

-- the parity is programmed with a slot, the last of its stripe
abbrev pub ClosesStripe : Shape → Slot → Type 0
ClosesStripe shape slot = IsTrue (is_last_of_stripe shape.dies slot.index)

-- the slot's page is the first of its block that isn't programmed, and so is the parity's with the last slot of a stripe
pub record HasNextPages (shape : Shape) (slot : Slot) (dies : List DieState) : Type 0 where
  pub of_slot : (page_of_slot shape slot).page ≡ programmed_at dies (page_of_slot shape slot)
  pub of_parity : ClosesStripe shape slot → (parity_of_slot shape slot).page ≡ programmed_at dies (parity_of_slot shape slot)

-- the page of a place was programmed with a word
abbrev pub PutsAt : Place → List ℕ → List DieState → List DieState → Type 0
PutsAt place word old new = PutsPage place.sb place.page word (die_at old place.die) (die_at new place.die)

-- the slot was programmed with a word, and with the last slot of a stripe its parity with a sum
pub record IsProgrammed (shape : Shape) (slot : Slot) (word sum : List ℕ) (old new : List DieState) : Type 0 where
  pub count_stays : length new ≡ length old
  pub slot_page : PutsAt (page_of_slot shape slot) word old new
  pub parity_page : ClosesStripe shape slot → PutsAt (parity_of_slot shape slot) sum old new
  pub others :
      (other : ℕ) → other ≢ (page_of_slot shape slot).die
      → (ClosesStripe shape slot → other ≢ (parity_of_slot shape slot).die)
      → die_at new other ≡ die_at old other

-- the program stopped at the slot's die, to which this happened
pub record StopsAtSlot (shape : Shape) (slot : Slot) (die : ℕ) (P : DieState → DieState → Type 0)
    (old new : List DieState) : Type 0 where
  pub is_slot : die ≡ (page_of_slot shape slot).die
  pub stopped : P (die_at old die) (die_at new die)
  pub others : OthersStay die old new

-- the program stopped at the parity's die, to which this happened, with the slot's page programmed
pub record StopsAtParity (shape : Shape) (slot : Slot) (word : List ℕ) (die : ℕ) (P : DieState → DieState → Type 0)
    (old new : List DieState) : Type 0 where
  pub is_last : ClosesStripe shape slot
  pub is_parity : die ≡ (parity_of_slot shape slot).die
  pub slot_page : PutsAt (page_of_slot shape slot) word old new
  pub stopped : P (die_at old die) (die_at new die)
  pub others : (other : ℕ) → other ≢ die → other ≢ (page_of_slot shape slot).die → die_at new other ≡ die_at old other

-- the program stopped at a die, to which this happened
pub record StopsProgram (shape : Shape) (slot : Slot) (word : List ℕ) (die : ℕ) (P : DieState → DieState → Type 0)
    (old new : List DieState) : Type 0 where
  pub count_stays : length new ≡ length old
  pub stops : StopsAtSlot shape slot die P old new ⊎ StopsAtParity shape slot word die P old new

-- what became of the dies, as the program ended
abbrev pub EndsProgram : Shape → Slot → List ℕ → List ℕ → List DieState → List DieState → ProgramEnd → Type 0
EndsProgram shape slot word sum old new ProgramEnd.Programmed = IsProgrammed shape slot word sum old new
EndsProgram shape slot word sum old new (ProgramEnd.Failed die) =
    StopsProgram shape slot word die (RefusesBlock slot.sb) old new
EndsProgram shape slot word sum old new (ProgramEnd.Fault die) = StopsProgram shape slot word die FaultsDie old new

-- the running sum after a program, from the sum with its word: zeros after the last slot of a stripe, and where the
-- program stopped
abbrev pub sum_after : Shape → Slot → List ℕ → ProgramEnd → List ℕ
sum_after shape slot sum ProgramEnd.Programmed =
    if is_last_of_stripe shape.dies slot.index then zero_word (word_bytes_in shape) else sum
sum_after shape slot sum (ProgramEnd.Failed die) = zero_word (word_bytes_in shape)
sum_after shape slot sum (ProgramEnd.Fault die) = zero_word (word_bytes_in shape)

-- whether a stripe is open after a program of a slot
abbrev pub is_open_after : Shape → Slot → ProgramEnd → Bool
is_open_after shape slot ProgramEnd.Programmed = not (is_last_of_stripe shape.dies slot.index)
is_open_after shape slot (ProgramEnd.Failed die) = false
is_open_after shape slot (ProgramEnd.Fault die) = false

-- a program of a word into a slot, as it ended
pub record Programs (old new : DiesState) (slot : Slot) (word : List ℕ) (end : ProgramEnd) : Type 0 where
  pub shape_stays : new.shape ≡ old.shape
  pub dies : EndsProgram old.shape slot word (bytes_sum word old.sum) old.dies new.dies end
  pub sum_is : new.sum ≡ sum_after old.shape slot (bytes_sum word old.sum) end
