-- The superblocks of a table stay due in the dies after the next slot was programmed, after a superblock was erased, picked
-- or retired, and after a block was aged.
use Rattle.std.proofs.Common.{◌≡◌, ◌≢◌, ℕ, ◌+◌, ◌<◌, ◌≤◌, ◌==◌, ◌&&◌, Bool, true, false, List, [], length, map, refl, ap, sym}
use Rattle.std.proofs.Common.{◌∙◌, subst, Option, Some, None, arith, inl, inr, IsTrue, ℤ, length-set}
use Rattle.std.specs.Prelude.{IsFalse, if◌then◌else◌}
use Rattle.std.proofs.lemmas.Bool.{cases_eq, eq-eqb}
use Rattle.std.proofs.lemmas.Bool.Decides.{nat_tests}
use Rattle.ssd_geo.specs.BlockCells.{BlockCells, cells_at}
use Rattle.ssd_geo.specs.Cells.{aged_level}
use Rattle.ssd_geo.specs.Stripe.{is_last_of_stripe, stripe_of_index}
use Rattle.ssd_geo.specs.StripeLaws.{due_after_one}
use Rattle.ssd_geo.specs.Superblock.{due_pages}
use Rattle.ssd_histories.specs.Blocks.{block_at, erased_block, next_slot_of, victim_block, victim_in, with_erased}
use Rattle.ssd_histories.specs.Blocks.{with_next_used, with_slot_used, with_victim}
use Rattle.ssd_histories.specs.Ranges.{has_slot}
use Rattle.ssd_histories.specs.States.{is_bad}
use Rattle.ssd_geo.specs.declared.base.BlockBase.{BlockBase}
use Rattle.ssd_geo.specs.declared.place.Place.{Place}
use Rattle.ssd_geo.specs.declared.shape.Shape.{Shape}
use Rattle.ssd_geo.specs.declared.slot.Slot.{Slot}
use Rattle.ssd_geo.proofs.Stripes.{due_pages_ends, due_pages_step}
use Rattle.onfi_cmd.specs.DieState.{DieState, programmed_in}
use Rattle.onfi_cmd.specs.declared.plan.DiePlan.{DiePlan}
use Rattle.chan_dies.specs.DiesState.{blocks_told, die_at, fresh_in}
use Rattle.chan_dies.specs.Erasing.{ErasesFirst}
use Rattle.chan_dies.specs.OneDie.{AgesBlock, OthersStay, aged_by}
use Rattle.chan_dies.specs.Programming.{IsProgrammed, PutsAt, page_of_slot, parity_of_slot}
use Rattle.chan_fits.specs.DiesFit.{AreDue, told_erases}
use Rattle.chan_fits.proofs.BlockChanges.{apart, erased_below, erased_blocks, programmed_blocks, told_now, told_put, told_same}
use Rattle.chan_fits.proofs.DueDies.{due_but_one, next_good, victim_is_good}
use Rattle.chan_fits.proofs.PlacesInRange.{has_places}
use Rattle.chan_fits.proofs.ToldBlocks.{as_many_aged, erased_as_often, erased_here, erases_stay, one_page_more}
use Rattle.ssd_histories.proofs.NextSlots.{next_index, next_used}

-- ---- a program

-- the die of a slot isn't that of its stripe's parity
pub dies_differ : (shape : Shape) (slot : Slot) → IsTrue (has_slot shape slot)
    → (page_of_slot shape slot).die ≢ (parity_of_slot shape slot).die
dies_differ shape slot range e =
    (has_places shape slot range).differ (ap {B = Place}
    (λ (die : ℕ). record { die = die; sb = slot.sb; page = stripe_of_index shape.dies slot.index }) e)

-- the block of a page that was programmed has one page more, and was erased as often
put_more : (place : Place) (word : List ℕ) (old new : List DieState) → PutsAt place word old new
    → place.sb < length (blocks_told old place.die)
    → programmed_in (blocks_told new place.die) place.sb ≡ programmed_in (blocks_told old place.die) place.sb + 1
put_more place word old new puts lt =
    let levels : List ℤ = fresh_in (die_at old place.die) place.sb place.page word in
    ap {B = ℕ} (λ (blocks : List BlockCells). programmed_in blocks place.sb) (told_put place word old new puts)
    ∙ one_page_more (blocks_told old place.die) place.sb levels lt

put_erases : (place : Place) (word : List ℕ) (old new : List DieState) → PutsAt place word old new
    → place.sb < length (blocks_told old place.die)
    → told_erases new place.die place.sb ≡ told_erases old place.die place.sb
put_erases place word old new puts lt =
    let levels : List ℤ = fresh_in (die_at old place.die) place.sb place.page word in
    ap {B = ℕ} (λ (blocks : List BlockCells). (cells_at blocks place.sb).erases) (told_put place word old new puts)
    ∙ erases_stay (blocks_told old place.die) place.sb place.sb levels lt

-- what is counted of a die: a page where the slot's is its own, and one where the parity's is
abbrev one_if : Bool → ℕ
one_if b = if b then 1 else 0

test_other : (a b : ℕ) → a ≢ b → (a == b) ≡ false
test_other a b e = grind (arith, nat_tests)

-- the block of the slot after its program: its pages, and its erases
record IsPagesMore (dies slot_die parity sb : ℕ) (last : Bool) (old new : List DieState) (die : ℕ) : Type 0 where
  pub pages : programmed_in (blocks_told new die) sb ≡ programmed_in (blocks_told old die) sb + one_if
      (die == slot_die) + one_if (last && die == parity)
  pub erases : told_erases new die sb ≡ told_erases old die sb

pages_more : (shape : Shape) (slot : Slot) (word sum : List ℕ) (old new : List DieState) → IsTrue (has_slot shape slot)
    → IsProgrammed shape slot word sum old new
    → (die : ℕ) → slot.sb < length (blocks_told old die)
    → IsPagesMore shape.dies (page_of_slot shape slot).die (parity_of_slot shape slot).die slot.sb
    (is_last_of_stripe shape.dies slot.index) old new die
pages_more shape slot word sum old new range is die lt = elim (cases_eq die slot_die) [
  | inl here ↦
      let differ : (die == parity) ≡ false = test_other die parity (λ e. dies_differ shape slot range (sym here ∙ e)) in
      record {
        pages = counts (die == slot_die) last (die == parity) (eq-eqb die slot_die here)
            (no_parity last (die == parity) differ)
            (subst (λ (n : ℕ). programmed_in (blocks_told new n) slot.sb ≡ programmed_in (blocks_told old n) slot.sb + 1)
            (sym here)
            (put_more (page_of_slot shape slot) word old new is.slot_page
            (subst (λ (n : ℕ). slot.sb < length (blocks_told old n)) here lt)));
        erases =
            subst (λ (n : ℕ). told_erases new n slot.sb ≡ told_erases old n slot.sb) (sym here)
            (put_erases (page_of_slot shape slot) word old new is.slot_page
            (subst (λ (n : ℕ). slot.sb < length (blocks_told old n)) here lt));
      }
  | inr other ↦ elim (cases_eq die parity) [
    | inl here ↦ by_last last refl other here
    | inr far ↦ untouched other (no_parity last (die == parity) (test_other die parity far))
        (told_same old new die (is.others die other (λ last. far)))
  ]
]
  where
    slot_die : ℕ
    slot_die = (page_of_slot shape slot).die

    parity : ℕ
    parity = (parity_of_slot shape slot).die

    last : Bool
    last = is_last_of_stripe shape.dies slot.index

    no_parity : (a b : Bool) → b ≡ false → (a && b) ≡ false
    no_parity true b e = e
    no_parity false b e = refl

    counts : (a l b : Bool) → a ≡ true → (l && b) ≡ false
        → programmed_in (blocks_told new die) slot.sb ≡ programmed_in (blocks_told old die) slot.sb + 1
        → programmed_in (blocks_told new die) slot.sb ≡ programmed_in (blocks_told old die) slot.sb + one_if a + one_if (l && b)
    counts a l b e f g =
        let one : one_if a ≡ 1 = ap {B = ℕ} one_if e in
        let none : one_if (l && b) ≡ 0 = ap {B = ℕ} one_if f in
        omega (arith, one, none, g)

    untouched : die ≢ slot_die → (last && die == parity) ≡ false → blocks_told new die ≡ blocks_told old die
        → IsPagesMore shape.dies slot_die parity slot.sb last old new die
    untouched other far same =
        let none : one_if (die == slot_die) ≡ 0 = ap {B = ℕ} one_if (test_other die slot_die other) in
        let no_more : one_if (last && die == parity) ≡ 0 = ap {B = ℕ} one_if far in
        let as_many : programmed_in (blocks_told new die) slot.sb ≡ programmed_in (blocks_told old die) slot.sb =
        ap {B = ℕ} (λ (blocks : List BlockCells). programmed_in blocks slot.sb) same in
        record {
          pages = omega (arith, none, no_more, as_many);
          erases = ap {B = ℕ} (λ (blocks : List BlockCells). (cells_at blocks slot.sb).erases) same;
        }

    by_last : (b : Bool) → last ≡ b → die ≢ slot_die → die ≡ parity
        → IsPagesMore shape.dies slot_die parity slot.sb last old new die
    by_last true e other here =
        let puts : PutsAt (parity_of_slot shape slot) sum old new = is.parity_page e in
        let low : slot.sb < length (blocks_told old parity) = subst (λ (n : ℕ). slot.sb < length (blocks_told old n)) here lt in
        let none : one_if (die == slot_die) ≡ 0 = ap {B = ℕ} one_if (test_other die slot_die other) in
        let one : one_if (last && die == parity) ≡ 1 = (λ i. one_if (e i && eq-eqb die parity here i)) in
        let more : programmed_in (blocks_told new die) slot.sb ≡ programmed_in (blocks_told old die) slot.sb + 1 =
        subst (λ (n : ℕ). programmed_in (blocks_told new n) slot.sb ≡ programmed_in (blocks_told old n) slot.sb + 1) (sym here)
        (put_more (parity_of_slot shape slot) sum old new puts low) in
        record {
          pages = omega (arith, none, one, more);
          erases =
              subst (λ (n : ℕ). told_erases new n slot.sb ≡ told_erases old n slot.sb) (sym here)
              (put_erases (parity_of_slot shape slot) sum old new puts low);
        }
    by_last false e other here =
        untouched other (ap {B = Bool} (λ (b : Bool). b && die == parity) e)
        (told_same old new die (is.others die other (λ f. absurd (apart last e f))))

-- the next slot was programmed
pub due_programmed : (slots : ℕ) (shape : Shape) (blocks : List BlockBase) (slot : Slot) (word sum : List ℕ)
    (old new : List DieState) → length blocks ≡ shape.superblocks
    → next_slot_of blocks ≡ Some slot → IsTrue (has_slot shape slot) → IsProgrammed shape slot word sum old new
    → AreDue shape blocks old → AreDue shape (with_next_used slots blocks) new
due_programmed slots shape blocks slot word sum old new count next range is due =
    let block : BlockBase = block_at blocks slot.sb in
    let good : IsFalse (is_bad block.state) = next_good blocks slot next in
    let index : slot.index ≡ block.used = next_index blocks slot next in
    let two : 2 ≤ shape.dies = omega (arith, shape.within.dies_low) in
    subst (λ (after : List BlockBase). AreDue shape after new) (sym (next_used slots blocks slot next))
    (due_but_one shape blocks old new slot.sb (with_slot_used slots block) count
    (λ die lt. programmed_blocks shape slot word sum old new is die)
    (λ sound die lt within.
    let more = pages_more shape slot word sum old new range is die (omega (arith, due.blocks_count die lt)) in
    let before : programmed_in (blocks_told old die) slot.sb ≡ due_pages shape.dies slot.sb slot.index die =
    due.pages_due die slot.sb lt within good ∙ ap {B = ℕ} (λ (n : ℕ). due_pages shape.dies slot.sb n die) (sym index) in
    let step : due_pages shape.dies slot.sb (slot.index + 1) die ≡ due_after_one shape.dies slot.sb slot.index die =
    due_pages_step shape.dies slot.sb slot.index die two lt in
    let now : due_pages shape.dies slot.sb (slot.index + 1) die ≡ due_pages shape.dies slot.sb (block.used + 1) die =
    ap {B = ℕ} (λ (n : ℕ). due_pages shape.dies slot.sb (n + 1) die) index in
    record {
      pages = more.pages ∙ ap {B = ℕ} (λ (n : ℕ). n + one_if (die == (page_of_slot shape slot).die) + one_if
          (is_last_of_stripe shape.dies slot.index && die == (parity_of_slot shape slot).die)) before
          ∙ sym step ∙ now;
      erases = more.erases ∙ due.erases_due die slot.sb lt within good;
    })
    due)

-- ---- an erase, a pick and ageing

pub due_erased : (shape : Shape) (blocks : List BlockBase) (old new : List DieState) (sb : ℕ)
    → length blocks ≡ shape.superblocks → victim_in blocks ≡ Some sb → ErasesFirst shape.dies sb old new
    → AreDue shape blocks old → AreDue shape (with_erased blocks sb) new
due_erased shape blocks old new sb count victim is due =
    let two : 2 ≤ shape.dies = omega (arith, shape.within.dies_low) in
    due_but_one shape blocks old new sb (erased_block (block_at blocks sb)) count
    (λ die lt. erased_blocks sb (blocks_told old die) (blocks_told new die)
    (erased_below shape.dies sb old new is.below die lt))
    (λ sound die lt within.
    let now : cells_at (blocks_told new die) sb ≡ record { pages = []; erases = told_erases old die sb + 1 } =
    ap {B = BlockCells} (λ (told : List BlockCells). cells_at told sb) (erased_below shape.dies sb old new is.below die lt)
    ∙ erased_here (blocks_told old die) sb (omega (arith, due.blocks_count die lt)) in
    record {
      pages = ap {B = ℕ} (λ (c : BlockCells). length c.pages) now ∙ sym (due_pages_ends shape.dies sb shape.pages die two).none;
      erases = ap {B = ℕ} (λ (c : BlockCells). c.erases) now
          ∙ ap {B = ℕ} (λ (n : ℕ). n + 1) (due.erases_due die sb lt within (victim_is_good blocks sb victim));
    })
    due

-- a superblock that isn't bad becomes the victim
pub due_picked : (shape : Shape) (blocks : List BlockBase) (dies : List DieState) (sb : ℕ) → length blocks ≡ shape.superblocks
    → IsFalse (is_bad (block_at blocks sb).state)
    → AreDue shape blocks dies → AreDue shape (with_victim blocks sb) dies
due_picked shape blocks dies sb count good due =
    due_but_one shape blocks dies dies sb (victim_block (block_at blocks sb)) count
    (λ die lt. record { as_many = refl; elsewhere = λ other differ. refl })
    (λ sound die lt within. record {
      pages = due.pages_due die sb lt within good;
      erases = due.erases_due die sb lt within good;
    })
    due

-- as many blocks, with as many pages each, erased as often
record CountsAsMuch (old new : List BlockCells) : Type 0 where
  pub as_many : length new ≡ length old
  pub pages : (sb : ℕ) → programmed_in new sb ≡ programmed_in old sb
  pub erases : (sb : ℕ) → (cells_at new sb).erases ≡ (cells_at old sb).erases

same_counts : (old new : List BlockCells) → new ≡ old → CountsAsMuch old new
same_counts old new same = record {
  as_many = ap {B = ℕ} (λ (blocks : List BlockCells). length blocks) same;
  pages = λ sb. ap {B = ℕ} (λ (blocks : List BlockCells). programmed_in blocks sb) same;
  erases = λ sb. ap {B = ℕ} (λ (blocks : List BlockCells). (cells_at blocks sb).erases) same;
}

aged_counts : (plan : Option DiePlan) (blocks : List BlockCells) (sb amount : ℕ) → sb < length blocks
    → CountsAsMuch blocks (aged_by plan blocks sb amount)
aged_counts None blocks sb amount lt = same_counts blocks blocks refl
aged_counts (Some plan) blocks sb amount lt = record {
  as_many = length-set blocks sb (record {
    pages = map (map (aged_level plan.law.erased amount)) (cells_at blocks sb).pages;
    erases = (cells_at blocks sb).erases;
  });
  pages = λ other. as_many_aged plan.law.erased blocks sb amount other lt;
  erases = λ other. erased_as_often plan.law.erased blocks sb amount other lt;
}

-- a block was aged
pub due_aged : (shape : Shape) (blocks : List BlockBase) (old new : List DieState) (die sb amount : ℕ) → sb < shape.superblocks
    → OthersStay die old new → AgesBlock sb amount (die_at old die) (die_at new die)
    → AreDue shape blocks old → AreDue shape blocks new
due_aged shape blocks old new die sb amount low others ages due = record {
  blocks_count = λ other lt. (counts other lt).as_many ∙ due.blocks_count other lt;
  pages_due = λ other at lt within good. (counts other lt).pages at ∙ due.pages_due other at lt within good;
  erases_due = λ other at lt within good. (counts other lt).erases at ∙ due.erases_due other at lt within good;
}
  where
    counts : (other : ℕ) → other < shape.dies → CountsAsMuch (blocks_told old other) (blocks_told new other)
    counts other lt = elim (cases_eq other die) [
      | inl here ↦
          subst (λ (n : ℕ). CountsAsMuch (blocks_told old n) (blocks_told new n)) (sym here)
          (subst (λ (told : List BlockCells). CountsAsMuch (blocks_told old die) told)
          (sym (told_now (die_at old die) (die_at new die)
          (aged_by (die_at old die).plan (blocks_told old die) sb amount) ages))
          (aged_counts (die_at old die).plan (blocks_told old die) sb amount
          (subst (λ (n : ℕ). sb < length (blocks_told old n)) here (omega (arith, due.blocks_count other lt)))))
      | inr far ↦ same_counts (blocks_told old other) (blocks_told new other) (told_same old new other (others other far))
    ]
