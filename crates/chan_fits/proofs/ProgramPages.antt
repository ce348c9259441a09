-- The pages that dies tell after a page was programmed, and after a slot was: they are those of the past with the word.
use Rattle.std.proofs.Common.{◌≡◌, ◌≢◌, ℕ, ◌<◌, ◌==◌, ◌&&◌, Bool, true, false, List, [], ◌∷◌, ◌++◌, ◌⊎◌, length, ℤ, refl, ap}
use Rattle.std.proofs.Common.{sym, ◌∙◌, subst, Option, Some, None, arith, IsTrue, inl, inr}
use Rattle.std.specs.Prelude.{IsFalse, option_map, slice_get}
use Rattle.std.proofs.lemmas.Bool.{cases_eq}
use Rattle.std.proofs.lemmas.Bool.Decides.{nat_tests}
use Rattle.ssd_geo.specs.Bits.{bytes_sum}
use Rattle.ssd_geo.specs.BlockCells.{BlockCells, cells_at}
use Rattle.ssd_geo.specs.Cells.{fresh_levels}
use Rattle.ssd_geo.specs.Coding.{coding_of}
use Rattle.ssd_geo.specs.Noise.{number_of_page}
use Rattle.ssd_geo.specs.Stripe.{is_last_of_stripe, place_of_parity, place_of_slot, stripe_of_index}
use Rattle.ssd_geo.specs.declared.entry.Entry.{Entry}
use Rattle.ssd_geo.specs.declared.place.Place.{Place}
use Rattle.ssd_geo.specs.declared.slot.Slot.{Slot}
use Rattle.ssd_geo.specs.declared.tag.Tag.{Tag}
use Rattle.ssd_histories.specs.PastBlocks.{state_of}
use Rattle.ssd_histories.specs.PastPages.{PageChange, StoredPage, programs, programs_parity, empties, ages, leaves, aged_page}
use Rattle.ssd_histories.specs.PastPages.{change_by_program, fresh_page, is_place, page_of}
use Rattle.ssd_histories.specs.Ranges.{has_place, has_slot}
use Rattle.ssd_histories.specs.Start.{Start}
use Rattle.ssd_histories.specs.States.{is_bad}
use Rattle.ssd_histories.proofs.FreshSlots.{same_place}
use Rattle.onfi_cmd.specs.DieState.{DieState, with_page}
use Rattle.onfi_cmd.specs.declared.plan.DiePlan.{DiePlan}
use Rattle.chan_dies.specs.DiesState.{blocks_told, die_at, fresh_in, programmed_at, programmed_by}
use Rattle.chan_dies.specs.Programming.{ClosesStripe, HasNextPages, IsProgrammed, PutsAt, page_of_slot, parity_of_slot}
use Rattle.chan_fits.specs.DiesFit.{DiesFit, told_page}
use Rattle.chan_fits.proofs.BlockChanges.{apart, told_put, told_same}
use Rattle.chan_fits.proofs.PlacesInRange.{HasPlaces, has_places, place_in_range}
use Rattle.chan_fits.proofs.QuietFits.{page_stays}
use Rattle.chan_fits.proofs.SumsAfter.{sum_at}
use Rattle.chan_fits.proofs.ToldBlocks.{other_page, programmed_page, put_elsewhere}
use Rattle.ssd_histories.proofs.SlotPrograms.{programs_own, is_place-same}

-- ---- one page

-- the page that was programmed
pub put_page : (place : Place) (word : List ℕ) (old new : List DieState) → PutsAt place word old new
    → place.sb < length (blocks_told old place.die)
    → place.page ≡ programmed_at old place → told_page new place ≡ Some
    (fresh_in (die_at old place.die) place.sb place.page word)
put_page place word old new puts lt is =
    ap {B = Option (List ℤ)} (λ (told : List BlockCells). slice_get (cells_at told place.sb).pages place.page)
    (told_put place word old new puts)
    ∙ programmed_page (blocks_told old place.die) place.sb place.page
    (fresh_in (die_at old place.die) place.sb place.page word) lt is

-- another page of its die
pub put_other : (place : Place) (word : List ℕ) (old new : List DieState) (other : Place) → PutsAt place word old new
    → place.sb < length (blocks_told old place.die)
    → place.page ≡ programmed_at old place → other.die ≡ place.die → other ≢ place → told_page new other ≡ told_page old other
put_other place word old new other puts lt is here differ =
    ap {B = Option (List ℤ)} (λ (die : ℕ). told_page new (record { die = die; sb = other.sb; page = other.page })) here
    ∙ ap {B = Option (List ℤ)} (λ (told : List BlockCells). slice_get (cells_at told other.sb).pages other.page)
    (told_put place word old new puts)
    ∙ by_block (cases_eq other.sb place.sb)
    ∙ ap {B = Option (List ℤ)} (λ (die : ℕ). told_page old (record { die = die; sb = other.sb; page = other.page })) (sym here)
  where
    levels : List ℤ
    levels = fresh_in (die_at old place.die) place.sb place.page word

    by_block : (other.sb ≡ place.sb) ⊎ (other.sb ≢ place.sb)
        → slice_get (cells_at (with_page (blocks_told old place.die) place.sb levels) other.sb).pages other.page ≡ slice_get
        (cells_at (blocks_told old place.die) other.sb).pages other.page
    by_block (inl same) =
        ap {B = Option (List ℤ)} (λ (n : ℕ). slice_get
        (cells_at (with_page (blocks_told old place.die) place.sb levels) n).pages other.page) same
        ∙ other_page (blocks_told old place.die) place.sb other.page levels lt
        (λ e. differ (λ i. record { die = here i; sb = same i; page = (e ∙ sym is) i }))
        ∙ ap {B = Option (List ℤ)} (λ (n : ℕ). slice_get (cells_at (blocks_told old place.die) n).pages other.page) (sym same)
    by_block (inr apart_blocks) =
        ap {B = Option (List ℤ)} (λ (c : BlockCells). slice_get c.pages other.page)
        (put_elsewhere (blocks_told old place.die) place.sb other.sb
        (record {
          pages = (cells_at (blocks_told old place.die) place.sb).pages ++ levels ∷ [];
          erases = (cells_at (blocks_told old place.die) place.sb).erases;
        }) apart_blocks)

-- the levels that a program of a word leaves are those of the past's fresh page
pub fresh_is : (start : Start) (contents : List (Tag × List ℕ)) (past : List Entry) (dies : List DieState) (sum : List ℕ)
    (place : Place) (word : List ℕ)
    → DiesFit start contents past dies sum → place.die < start.base.shape.dies → place.sb < start.base.shape.superblocks
    → IsFalse (is_bad (state_of start.base past place.sb))
    → fresh_in (die_at dies place.die) place.sb place.page word ≡ (fresh_page start.base past place word).levels
fresh_is start contents past dies sum place word fit lt within good =
    ap {B = List ℤ} (λ (plan : Option DiePlan). programmed_by plan (blocks_told dies place.die) place.sb place.page word)
    (fit.plans_are place.die lt)
    ∙ ap {B = List ℤ} (λ (erases : ℕ). fresh_levels start.base.law
    (number_of_page start.base.shape.dies start.base.shape.superblocks start.base.shape.pages start.base.channel place.die
    place.sb place.page) erases word)
    (fit.erases_are place.die place.sb lt within good)

-- ---- changes by a program

-- a page after a change by a program of a word
abbrev pub changed_page : Start → List (Tag × List ℕ) → List Entry → List ℕ → Place → PageChange → Option StoredPage
changed_page start contents past word place change = elim change [
  | programs ↦ Some (fresh_page start.base past place word)
  | programs_parity slot ↦ Some (fresh_page start.base past place (bytes_sum word (sum_at start contents past slot)))
  | empties ↦ None
  | ages amount ↦ option_map (aged_page start.base amount) (page_of (coding_of start.base) start contents past place)
  | leaves ↦ page_of (coding_of start.base) start contents past place
]

-- its levels, where it is programmed
abbrev pub changed_levels : Start → List (Tag × List ℕ) → List Entry → List ℕ → Place → PageChange → Option (List ℤ)
changed_levels start contents past word place change =
    option_map (λ stored. stored.levels) (changed_page start contents past word place change)

-- what the program of a slot does to its page, to the parity's and to another
abbrev change_by : ℕ → Slot → Bool → Bool → Bool → PageChange
change_by dies slot here last parity =
    elim here [
      | true ↦ programs
      | false ↦ elim (last && parity) [ true ↦ programs_parity slot | false ↦ leaves ]
    ]

pub not_same : (a b : Place) → a ≢ b → is_place a b ≡ false
not_same a b differ = by_test (is_place a b) (same_place a b)
  where
    by_test : (t : Bool) → (t ≡ true → a ≡ b) → t ≡ false
    by_test true h = absurd (differ (h refl))
    by_test false h = refl

pub two_places : (a b : Place) → is_place a b ≡ false → a ≢ b
two_places a b e same = apart (is_place a b) e (sym (ap {B = Bool} (is_place a) same) ∙ is_place-same a)

change_parity : (dies : ℕ) (slot : Slot) → place_of_parity dies slot.sb
    (stripe_of_index dies slot.index) ≢ place_of_slot dies slot → is_last_of_stripe dies slot.index ≡ true
    → change_by_program dies slot (place_of_parity dies slot.sb (stripe_of_index dies slot.index)) ≡ programs_parity slot
change_parity dies slot differ last =
    let parity : Place = place_of_parity dies slot.sb (stripe_of_index dies slot.index) in
    let other : is_place parity (place_of_slot dies slot) ≡ false = not_same parity (place_of_slot dies slot) differ in
    λ i. change_by dies slot (other i) (last i) (is_place-same parity i)

change_elsewhere : (dies : ℕ) (slot : Slot) (place : Place) → is_place place (place_of_slot dies slot) ≡ false
    → (is_last_of_stripe dies slot.index && is_place place (place_of_parity dies slot.sb (stripe_of_index dies slot.index)))
    ≡ false
    → change_by_program dies slot place ≡ leaves
change_elsewhere dies slot place other far =
    λ i. elim (other i) as (λ b. PageChange) [
      | true ↦ programs
      | false ↦ elim (far i) as (λ b. PageChange) [ true ↦ programs_parity slot | false ↦ leaves ]
    ]

-- ---- a slot

-- what is known of the dies before a program of the next slot
pub record MayProgram (start : Start) (contents : List (Tag × List ℕ)) (past : List Entry) (slot : Slot) (old : List DieState)
    (sum : List ℕ) : Type 0 where
  pub fit : DiesFit start contents past old sum
  pub range : IsTrue (has_slot start.base.shape slot)
  pub good : IsFalse (is_bad (state_of start.base past slot.sb))
  pub counts : (die : ℕ) → die < start.base.shape.dies → length (blocks_told old die) ≡ start.base.shape.superblocks
  pub next : HasNextPages start.base.shape slot old

-- the page of a place of the slot's superblock, after its program
pub put_levels : (start : Start) (contents : List (Tag × List ℕ)) (past : List Entry) (slot : Slot) (place : Place)
    (word sum : List ℕ) (old new : List DieState)
    → MayProgram start contents past slot old sum → place.sb ≡ slot.sb → IsTrue (has_place start.base.shape place)
    → place.page ≡ programmed_at old place
    → PutsAt place word old new → told_page new place ≡ Some (fresh_page start.base past place word).levels
put_levels start contents past slot place word sum old new may here range is puts =
    let low = place_in_range start.base.shape place range in
    put_page place word old new puts (omega (arith, low.superblock, may.counts place.die low.die)) is
    ∙ ap {B = Option (List ℤ)} (λ (levels : List ℤ). Some levels)
    (fresh_is start contents past old sum place word may.fit low.die low.superblock
    (subst (λ (n : ℕ). IsFalse (is_bad (state_of start.base past n))) (sym here) may.good))

-- each page after the program of the next slot is that of the past with the word
pub program_pages : (start : Start) (contents : List (Tag × List ℕ)) (past : List Entry) (slot : Slot) (word sum : List ℕ)
    (old new : List DieState)
    → MayProgram start contents past slot old sum → sum ≡ sum_at start contents past slot
    → IsProgrammed start.base.shape slot word (bytes_sum word sum) old new
    → (place : Place) → IsTrue (has_place start.base.shape place)
    → told_page new place ≡ changed_levels start contents past word place (change_by_program start.base.shape.dies slot place)
program_pages start contents past slot word sum old new may sum_is is place range =
    by_places (is_place place slot_place) (is_last_of_stripe start.base.shape.dies slot.index)
    (is_place place parity_place) refl refl refl
  where
    slot_place : Place
    slot_place = page_of_slot start.base.shape slot

    parity_place : Place
    parity_place = parity_of_slot start.base.shape slot

    there : HasPlaces start.base.shape slot
    there = has_places start.base.shape slot may.range

    changed : Place → PageChange → Option (List ℤ)
    changed other change = changed_levels start contents past word other change

    long : (other : Place) → IsTrue (has_place start.base.shape other) → slot.sb < length (blocks_told old other.die)
    long other other_range = omega (
      arith,
      (place_in_range start.base.shape slot_place there.slot_range).superblock,
      may.counts
          other.die (place_in_range start.base.shape other other_range).die,
    )

    at_slot : told_page new slot_place ≡ changed slot_place (change_by_program start.base.shape.dies slot slot_place)
    at_slot =
        put_levels start contents past slot slot_place word sum old new may refl there.slot_range may.next.of_slot is.slot_page
        ∙ sym (ap {B = Option (List ℤ)} (changed slot_place) (programs_own start.base.shape.dies slot))

    at_parity : ClosesStripe start.base.shape slot
        → told_page new parity_place ≡ changed parity_place (change_by_program start.base.shape.dies slot parity_place)
    at_parity last =
        put_levels start contents past slot parity_place (bytes_sum word sum) sum old new may refl there.parity_range
        (may.next.of_parity last) (is.parity_page last)
        ∙ ap {B = Option (List ℤ)} (λ (s : List ℕ). Some (fresh_page start.base past parity_place (bytes_sum word s)).levels)
        sum_is
        ∙ sym (ap {B = Option (List ℤ)} (changed parity_place)
        (change_parity start.base.shape.dies slot (λ e. there.differ (sym e)) last))

    -- a page that isn't programmed
    untouched : place ≢ slot_place → (ClosesStripe start.base.shape slot → place ≢ parity_place)
        → told_page new place ≡ told_page old place
    untouched other far = elim (cases_eq place.die slot_place.die) [
      | inl here ↦ put_other slot_place word old new place is.slot_page
          (long slot_place there.slot_range) may.next.of_slot here other
      | inr elsewhere ↦ elim (cases_eq place.die parity_place.die) [
        | inl here ↦ by_last (is_last_of_stripe start.base.shape.dies slot.index) refl elsewhere here
        | inr further ↦ page_stays old new place (told_same old new place.die (is.others place.die elsewhere (λ last. further)))
      ]
    ]
      where
        by_last : (b : Bool) → is_last_of_stripe start.base.shape.dies slot.index ≡ b → place.die ≢ slot_place.die
            → place.die ≡ parity_place.die → told_page new place ≡ told_page old place
        by_last true last elsewhere here =
            put_other parity_place (bytes_sum word sum) old new place (is.parity_page last)
            (long parity_place there.parity_range) (may.next.of_parity last) here (far last)
        by_last false e elsewhere here =
            page_stays old new place
            (told_same old new place.die (is.others place.die elsewhere
            (λ last. absurd (apart (is_last_of_stripe start.base.shape.dies slot.index) e last))))

    stays : place ≢ slot_place → (ClosesStripe start.base.shape slot → place ≢ parity_place)
        → change_by_program start.base.shape.dies slot place ≡ leaves
        → told_page new place ≡ changed place (change_by_program start.base.shape.dies slot place)
    stays other far none = untouched other far ∙ may.fit.pages_are place range
        ∙ sym (ap {B = Option (List ℤ)} (changed place) none)

    by_places : (here last parity : Bool) → is_place place slot_place ≡ here
        → is_last_of_stripe start.base.shape.dies slot.index ≡ last → is_place place parity_place ≡ parity
        → told_page new place ≡ changed place (change_by_program start.base.shape.dies slot place)
    by_places true last parity f e g =
        subst (λ (p : Place). told_page new p ≡ changed p (change_by_program start.base.shape.dies slot p))
        (sym (same_place place slot_place f)) at_slot
    by_places false true true f e g =
        subst (λ (p : Place). told_page new p ≡ changed p (change_by_program start.base.shape.dies slot p))
        (sym (same_place place parity_place g)) (at_parity e)
    by_places false true false f e g =
        stays (two_places place slot_place f) (λ last. two_places place parity_place g)
        (change_elsewhere start.base.shape.dies slot place f (λ i. e i && g i))
    by_places false false parity f e g =
        stays (two_places place slot_place f) (λ last. absurd
        (apart (is_last_of_stripe start.base.shape.dies slot.index) e last))
        (change_elsewhere start.base.shape.dies slot place f (λ i. e i && is_place place parity_place))
