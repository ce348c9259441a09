-- The superblocks of a table stay due in the dies, whatever an entry does to both.
use Rattle.std.proofs.Common.{◌≡◌, ◌≢◌, ℕ, ◌-◌, ◌^◌, ◌<◌, ◌≤◌, true, false, List, length, set, refl, ap, sym, ◌∙◌, subst}
use Rattle.std.proofs.Common.{Option, Some, None, arith, get_or-set_same, inl, inr, IsTrue}
use Rattle.std.specs.Prelude.{IsFalse, unwrap_or}
use Rattle.std.proofs.lemmas.Bool.{cases_eq}
use Rattle.std.specs.List.{list_all}
use Rattle.std.proofs.lemmas.List.{get_or-set_other}
use Rattle.std.proofs.lemmas.List.Quantifiers.{position-Some}
use Rattle.ssd_geo.specs.BlockCells.{BlockCells, cells_at}
use Rattle.ssd_geo.specs.Stripe.{place_of_parity, place_of_slot, stripe_of_index}
use Rattle.ssd_geo.specs.StripeLaws.{IsNextPage, IsPlace}
use Rattle.ssd_geo.specs.Superblock.{due_pages}
use Rattle.ssd_histories.specs.Blocks.{blank_block, block_at, first_some, freshest_of, frontier_of, is_freshest}
use Rattle.ssd_histories.specs.Blocks.{is_frontier_block, is_no_fresher, is_victim_block, next_slot_of, next_superblock}
use Rattle.ssd_histories.specs.Blocks.{retired_block, slot_after_used, slot_in, used_in, victim_in, with_next_used}
use Rattle.ssd_histories.specs.Blocks.{with_retired, with_slot_used}
use Rattle.ssd_histories.specs.Ranges.{has_slot}
use Rattle.ssd_histories.specs.States.{is_bad, is_free, is_frontier, is_victim}
use Rattle.ssd_geo.specs.declared.base.BlockBase.{BlockBase}
use Rattle.ssd_geo.specs.declared.place.Place.{Place}
use Rattle.ssd_geo.specs.declared.shape.Shape.{Shape}
use Rattle.ssd_geo.specs.declared.slot.Slot.{Slot}
use Rattle.ssd_geo.specs.declared.superblock.SbState.{SbState}
use Rattle.ssd_geo.proofs.Stripes.{pages_rise, parity_die-lt}
use Rattle.ssd_histories.proofs.PinnedWords.{slot_block}
use Rattle.ssd_histories.proofs.UsedSlots.{first_holds}
use Rattle.onfi_cmd.specs.DieState.{DieState, programmed_in}
use Rattle.chan_dies.specs.DiesState.{blocks_told}
use Rattle.chan_dies.specs.Erasing.{CanCountErases}
use Rattle.chan_dies.specs.Programming.{HasNextPages}
use Rattle.chan_fits.specs.DiesFit.{AreDue, told_erases}
use Rattle.chan_fits.proofs.BlockChanges.{KeepsOtherBlocks}
use Rattle.chan_fits.proofs.PlacesInRange.{HasPlaces, has_places, place_in_range}
use Rattle.ssd_histories.proofs.NextSlots.{next_index}

-- the blocks that the dies tell stay
pub due_stays : (shape : Shape) (blocks : List BlockBase) (old new : List DieState)
    → ((die : ℕ) → die < shape.dies → blocks_told new die ≡ blocks_told old die)
    → AreDue shape blocks old → AreDue shape blocks new
due_stays shape blocks old new same due = record {
  blocks_count = λ die lt. ap {B = ℕ} (λ (told : List BlockCells). length told) (same die lt) ∙ due.blocks_count die lt;
  pages_due = λ die sb lt within good. ap {B = ℕ} (λ (told : List BlockCells). programmed_in told sb) (same die lt)
      ∙ due.pages_due die sb lt within good;
  erases_due = λ die sb lt within good. ap {B = ℕ} (λ (told : List BlockCells). (cells_at told sb).erases) (same die lt)
      ∙ due.erases_due die sb lt within good;
}

-- one superblock of the table is another now
here_now : (blocks : List BlockBase) (sb : ℕ) (to : BlockBase) → sb < length blocks → block_at (set blocks sb to) sb ≡ to
here_now blocks sb to lt = get_or-set_same blocks sb to blank_block lt

elsewhere_now : (blocks : List BlockBase) (sb other : ℕ) (to : BlockBase) → other ≢ sb
    → block_at (set blocks sb to) other ≡ block_at blocks other
elsewhere_now blocks sb other to differ = get_or-set_other blocks sb other to blank_block differ

-- a superblock is due in a die
pub record IsDueIn (shape : Shape) (block : BlockBase) (dies : List DieState) (die sb : ℕ) : Type 0 where
  pub pages : programmed_in (blocks_told dies die) sb ≡ due_pages shape.dies sb block.used die
  pub erases : told_erases dies die sb ≡ block.erases

-- where one superblock of the table changed, and the dies' other blocks stay, that superblock has to be due
pub due_but_one : (shape : Shape) (blocks : List BlockBase) (old new : List DieState) (sb : ℕ) (to : BlockBase)
    → length blocks ≡ shape.superblocks
    → ((die : ℕ) → die < shape.dies → KeepsOtherBlocks sb (blocks_told old die) (blocks_told new die))
    → (IsFalse (is_bad to.state) → (die : ℕ) → die < shape.dies → sb < shape.superblocks → IsDueIn shape to new die sb)
    → AreDue shape blocks old → AreDue shape (set blocks sb to) new
due_but_one shape blocks old new sb to count keeps there due = record {
  blocks_count = λ die lt. (keeps die lt).as_many ∙ due.blocks_count die lt;
  pages_due = λ die other lt within good. (due_at die other lt within good).pages;
  erases_due = λ die other lt within good. (due_at die other lt within good).erases;
}
  where
    due_at : (die other : ℕ) → die < shape.dies → other < shape.superblocks
        → IsFalse (is_bad (block_at (set blocks sb to) other).state)
        → IsDueIn shape (block_at (set blocks sb to) other) new die other
    due_at die other lt within good = elim (cases_eq other sb) [
      | inl same ↦
          let low : sb < shape.superblocks = omega arith in
          let now : block_at (set blocks sb to) other ≡ to = ap {B = BlockBase} (block_at (set blocks sb to)) same
          ∙ here_now blocks sb to (omega arith) in
          subst (λ (block : BlockBase). IsDueIn shape block new die other) (sym now)
          (subst (λ (n : ℕ). IsDueIn shape to new die n) (sym same)
          (there (subst (λ (block : BlockBase). IsFalse (is_bad block.state)) now good) die lt low))
      | inr differ ↦
          let now : block_at (set blocks sb to) other ≡ block_at blocks other = elsewhere_now blocks sb other to differ in
          let sound : IsFalse (is_bad (block_at blocks other).state) =
          subst (λ (block : BlockBase). IsFalse (is_bad block.state)) now good in
          let cells : cells_at (blocks_told new die) other ≡ cells_at (blocks_told old die) other =
          (keeps die lt).elsewhere other differ in
          subst (λ (block : BlockBase). IsDueIn shape block new die other) (sym now)
          (record {
            pages = ap {B = ℕ} (λ (c : BlockCells). length c.pages) cells ∙ due.pages_due die other lt within sound;
            erases = ap {B = ℕ} (λ (c : BlockCells). c.erases) cells ∙ due.erases_due die other lt within sound;
          })
    ]

-- a superblock was retired
pub due_retired : (shape : Shape) (blocks : List BlockBase) (old new : List DieState) (sb : ℕ)
    → length blocks ≡ shape.superblocks
    → ((die : ℕ) → die < shape.dies → KeepsOtherBlocks sb (blocks_told old die) (blocks_told new die))
    → AreDue shape blocks old → AreDue shape (with_retired blocks sb) new
due_retired shape blocks old new sb count keeps due =
    due_but_one shape blocks old new sb (retired_block (block_at blocks sb)) count keeps
    (λ good. absurd (grind (arith, good))) due

-- ---- the next slot

pub frontier_good : (state : SbState) → is_frontier state ≡ true → is_bad state ≡ false
frontier_good SbState.Frontier e = refl
frontier_good SbState.Bad e = absurd (grind (arith, e))
frontier_good SbState.Free e = refl
frontier_good SbState.Sealed e = refl
frontier_good SbState.Victim e = refl

pub free_good : (state : SbState) → is_free state ≡ true → is_bad state ≡ false
free_good SbState.Frontier e = refl
free_good SbState.Bad e = absurd (grind (arith, e))
free_good SbState.Free e = refl
free_good SbState.Sealed e = refl
free_good SbState.Victim e = refl

pub victim_good : (state : SbState) → is_victim state ≡ true → is_bad state ≡ false
victim_good SbState.Frontier e = refl
victim_good SbState.Bad e = absurd (grind (arith, e))
victim_good SbState.Free e = refl
victim_good SbState.Sealed e = refl
victim_good SbState.Victim e = refl

-- the superblock of the next slot isn't bad, and neither is the victim
pub next_good : (blocks : List BlockBase) (slot : Slot) → next_slot_of blocks ≡ Some slot
    → IsFalse (is_bad (block_at blocks slot.sb).state)
next_good blocks slot next =
    chosen_good (frontier_of blocks) (freshest_of blocks)
    (λ e. frontier_good (block_at blocks slot.sb).state (position-Some is_frontier_block blocks slot.sb blank_block e).1)
    (λ e. free_good (block_at blocks slot.sb).state
    (first_holds (is_free (block_at blocks slot.sb).state) (list_all (is_no_fresher (block_at blocks slot.sb)) blocks)
    (position-Some (is_freshest blocks) blocks slot.sb blank_block e).1))
    (slot_block blocks (next_superblock blocks) slot next)
  where
    chosen_good : {C : Type 0} (a b : Option ℕ) → (a ≡ Some slot.sb → C) → (b ≡ Some slot.sb → C)
        → first_some a b ≡ Some slot.sb → C
    chosen_good None b first second e = second e
    chosen_good (Some sb) b first second e = first e

pub victim_is_good : (blocks : List BlockBase) (sb : ℕ) → victim_in blocks ≡ Some sb
    → IsFalse (is_bad (block_at blocks sb).state)
victim_is_good blocks sb e = victim_good (block_at blocks sb).state (position-Some is_victim_block blocks sb blank_block e).1

-- the pages that a program of the next slot uses are the first of their blocks that aren't programmed
pub has_next_pages : (shape : Shape) (blocks : List BlockBase) (dies : List DieState) (slot : Slot) → AreDue shape blocks dies
    → next_slot_of blocks ≡ Some slot
    → IsTrue (has_slot shape slot) → HasNextPages shape slot dies
has_next_pages shape blocks dies slot due next range =
    let there : HasPlaces shape slot = has_places shape slot range in
    let two : 2 ≤ shape.dies = omega (arith, shape.within.dies_low) in
    let rise : IsNextPage shape.dies slot.sb slot.index = pages_rise shape.dies slot.sb slot.index two in
    let place : Place = place_of_slot shape.dies slot in
    let parity : Place = place_of_parity shape.dies slot.sb (stripe_of_index shape.dies slot.index) in
    let low : IsPlace shape.dies shape.superblocks shape.pages place = place_in_range shape place there.slot_range in
    let index : slot.index ≡ (block_at blocks slot.sb).used = next_index blocks slot next in
    let good : IsFalse (is_bad (block_at blocks slot.sb).state) = next_good blocks slot next in
    record {
      of_slot =
          sym (due.pages_due place.die slot.sb low.die low.superblock good
          ∙ ap {B = ℕ} (λ (n : ℕ). due_pages shape.dies slot.sb n place.die) (sym index) ∙ rise.of_slot);
      of_parity = λ last.
          sym (due.pages_due parity.die slot.sb (parity_die-lt shape.dies slot.sb (stripe_of_index shape.dies slot.index) two)
          low.superblock good
          ∙ ap {B = ℕ} (λ (n : ℕ). due_pages shape.dies slot.sb n parity.die) (sym index) ∙ rise.of_parity);
    }

-- the erases of the blocks of a superblock that isn't bad can be counted once more, where those of the table can
pub can_count_erases : (shape : Shape) (blocks : List BlockBase) (dies : List DieState) (sb : ℕ) → AreDue shape blocks dies
    → sb < shape.superblocks
    → IsFalse (is_bad (block_at blocks sb).state) → (block_at blocks sb).erases < 2 ^ 32 - 1 → CanCountErases shape.dies sb dies
can_count_erases shape blocks dies sb due within good few die lt = omega (arith, due.erases_due die sb lt within good)
