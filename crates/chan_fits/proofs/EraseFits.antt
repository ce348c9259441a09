-- The dies and the running sum fit a past after an erase of the victim, and after one that stopped at a die; and after a
-- superblock was picked.
use Rattle.std.proofs.Common.{◌≡◌, ◌≢◌, ℕ, ◌<◌, ◌≤◌, ◌==◌, nat_lt, ◌&&◌, Bool, true, false, List, [], ◌∷◌, length, ℤ, refl, ap}
use Rattle.std.proofs.Common.{sym, ◌∙◌, subst, Option, Some, None, arith, IsTrue, inl, inr}
use Rattle.std.specs.Prelude.{slice_get}
use Rattle.std.proofs.lemmas.Bool.{cases_eq, ltb-true as below, eqb-false, eqb-true}
use Rattle.std.proofs.lemmas.Bool.Decides.{nat_tests}
use Rattle.ssd_geo.specs.BlockCells.{BlockCells, cells_at}
use Rattle.ssd_geo.specs.Ladder.{LadderState}
use Rattle.ssd_geo.specs.declared.base.BlockBase.{BlockBase}
use Rattle.ssd_geo.specs.declared.entry.Entry.{Entry}
use Rattle.ssd_geo.specs.declared.kind.Kind.{Kind}
use Rattle.ssd_geo.specs.declared.place.Place.{Place}
use Rattle.ssd_geo.specs.declared.superblock.SbState.{SbState}
use Rattle.ssd_geo.specs.declared.tag.Tag.{Tag}
use Rattle.ssd_histories.specs.Blocks.{block_at, with_erased, with_retired, with_victim}
use Rattle.ssd_histories.specs.Lawful.{IsLawfulBy}
use Rattle.ssd_histories.specs.PastBlocks.{blocks_of}
use Rattle.ssd_histories.specs.PastPages.{change_when, empties}
use Rattle.ssd_histories.specs.Ranges.{has_place}
use Rattle.ssd_histories.specs.Room.{victim_of}
use Rattle.ssd_histories.specs.Start.{Start}
use Rattle.ssd_histories.specs.States.{is_bad, is_sealed}
use Rattle.ssd_histories.proofs.BlockSteps.{blocks_after_entry, candidate_sealed}
use Rattle.ssd_histories.proofs.UsedSlots.{made}
use Rattle.onfi_cmd.specs.DieState as Die
use Rattle.onfi_cmd.specs.DieState.{DieState}
use Rattle.chan_dies.specs.DiesState.{blocks_told, die_at}
use Rattle.chan_dies.specs.Erasing.{ErasesBelow, ErasesFirst, StopsErase}
use Rattle.chan_dies.specs.OneDie.{FaultsDie, RefusesBlock}
use Rattle.chan_fits.specs.DiesFit.{AreDue, DiesFit, told_page}
use Rattle.chan_fits.proofs.BlockChanges.{TellsTheSame, by_order, erased_below, told_same, unerased_blocks}
use Rattle.chan_fits.proofs.DueAfter.{due_erased, due_picked}
use Rattle.chan_fits.proofs.DueDies.{due_retired}
use Rattle.chan_fits.proofs.FailedFits.{faulted_tells, refused_tells}
use Rattle.chan_fits.proofs.KeptSums.{bad_erase_sum, erase_sum, pick_sum}
use Rattle.chan_fits.proofs.PlacesInRange.{place_in_range}
use Rattle.chan_fits.proofs.ProgramFits.{blocks_number}
use Rattle.chan_fits.proofs.ProgramPages.{changed_levels}
use Rattle.chan_fits.proofs.QuietFits.{StaysCounted, fits_counted, fits_faulted, keeps_itself, kept_counted, page_stays}
use Rattle.chan_fits.proofs.QuietFits.{same_counted}
use Rattle.chan_fits.proofs.ToldBlocks.{erased_elsewhere, erased_here}

-- ---- pages

-- a page of a block that was erased is empty, and a page of another block stays
erased_page : (old new : List DieState) (sb : ℕ) (place : Place)
    → blocks_told new place.die ≡ Die.with_erased (blocks_told old place.die) sb → sb < length (blocks_told old place.die)
    → place.sb ≡ sb → told_page new place ≡ None
erased_page old new sb place is lt here =
    ap {B = Option (List ℤ)} (λ (told : List BlockCells). slice_get (cells_at told place.sb).pages place.page) is
    ∙ ap {B = Option (List ℤ)} (λ (n : ℕ). slice_get
    (cells_at (Die.with_erased (blocks_told old place.die) sb) n).pages place.page) here
    ∙ ap {B = Option (List ℤ)} (λ (c : BlockCells). slice_get c.pages place.page)
    (erased_here (blocks_told old place.die) sb lt)

kept_page : (old new : List DieState) (sb : ℕ) (place : Place)
    → blocks_told new place.die ≡ Die.with_erased (blocks_told old place.die) sb
    → place.sb ≢ sb → told_page new place ≡ told_page old place
kept_page old new sb place is far =
    ap {B = Option (List ℤ)} (λ (told : List BlockCells). slice_get (cells_at told place.sb).pages place.page) is
    ∙ ap {B = Option (List ℤ)} (λ (c : BlockCells). slice_get c.pages place.page)
    (erased_elsewhere (blocks_told old place.die) sb place.sb far)

-- a page after an erase that went over its die
page_by_erase : (start : Start) (contents : List (Tag × List ℕ)) (past : List Entry) (sum : List ℕ) (sb : ℕ)
    (old new : List DieState) (place : Place) (below : Bool)
    → DiesFit start contents past old sum → IsTrue (has_place start.base.shape place) → below ≡ true
    → blocks_told new place.die ≡ Die.with_erased (blocks_told old place.die) sb
    → length (blocks_told old place.die) ≡ start.base.shape.superblocks
    → told_page new place ≡ changed_levels start contents past [] place (change_when (place.sb == sb && below) empties)
page_by_erase start contents past sum sb old new place below fit range inside is count = by_test (place.sb == sb) refl
  where
    changed : Bool → Option (List ℤ)
    changed b = changed_levels start contents past [] place (change_when b empties)

    by_test : (b : Bool) → (place.sb == sb) ≡ b → told_page new place ≡ changed (place.sb == sb && below)
    by_test true e =
        let here : place.sb ≡ sb = eqb-true place.sb sb e in
        erased_page old new sb place is (omega (arith, here, count, (place_in_range start.base.shape place range).superblock))
        here
        ∙ sym (λ i. changed (e i && inside i))
    by_test false e =
        kept_page old new sb place is (eqb-false place.sb sb e) ∙ fit.pages_are place range ∙ sym (λ i. changed (e i && below))

-- a page after an erase that didn't come to its die
page_by_none : (start : Start) (contents : List (Tag × List ℕ)) (past : List Entry) (sum : List ℕ) (sb : ℕ)
    (old new : List DieState) (place : Place) (below : Bool)
    → DiesFit start contents past old sum → IsTrue (has_place start.base.shape place) → below ≡ false
    → blocks_told new place.die ≡ blocks_told old place.die
    → told_page new place ≡ changed_levels start contents past [] place (change_when (place.sb == sb && below) empties)
page_by_none start contents past sum sb old new place below fit range outside same =
    page_stays old new place same ∙ fit.pages_are place range
    ∙ sym (ap {B = Option (List ℤ)} (λ (b : Bool). changed_levels start contents past [] place (change_when b empties))
    (none (place.sb == sb) below outside))
  where
    none : (a b : Bool) → b ≡ false → (a && b) ≡ false
    none true b e = e
    none false b e = refl

-- ---- an erase of the victim

pub erased_counted : (bound sb : ℕ) (old new : List DieState) → ErasesBelow bound sb old new → (die : ℕ) → die < bound
    → StaysCounted (die_at old die) (die_at new die)
erased_counted bound sb old new below die lt = record {
  plan_stays = (below die lt).holds.plan_stays;
  works_stay = (below die lt).holds.works_stay;
  loads_stay = (below die lt).holds.loads_stay;
}

-- after a lawful erase
pub erase_fits : (ladder : List Entry → ℕ → LadderState) (start : Start) (contents : List (Tag × List ℕ)) (past : List Entry)
    (tag : Tag) (sb : ℕ) (sum : List ℕ) (old new : List DieState)
    → IsLawfulBy ladder start.base (made tag (Kind.Erase sb) ∷ past)
    → AreDue start.base.shape (blocks_of start.base past) old → ErasesFirst start.base.shape.dies sb old new
    → DiesFit start contents past old sum → DiesFit start contents (made tag (Kind.Erase sb) ∷ past) new sum
erase_fits ladder start contents past tag sb sum old new lawful due is fit =
    let victim : victim_of start.base past ≡ Some sb = lawful.1.meets.may_erase.is_victim in
    let after : blocks_of start.base (made tag (Kind.Erase sb) ∷ past) ≡ with_erased (blocks_of start.base past) sb =
    blocks_after_entry ladder start.base (made tag (Kind.Erase sb)) past lawful in
    fits_counted start contents past (made tag (Kind.Erase sb)) old new sum sum fit (λ die. refl)
    (λ die lt. erased_counted start.base.shape.dies sb old new is.below die lt)
    (λ place range.
    let low = (place_in_range start.base.shape place range).die in
    page_by_erase start contents past sum sb old new place true fit range refl
    (erased_below start.base.shape.dies sb old new is.below place.die low) (due.blocks_count place.die low)
    ∙ ap {B = Option (List ℤ)} (λ (b : Bool). changed_levels start contents past [] place (change_when b empties))
    (and_true (place.sb == sb)))
    (subst (λ (blocks : List BlockBase). AreDue start.base.shape blocks new) (sym after)
    (due_erased start.base.shape (blocks_of start.base past) old new sb (blocks_number start past) victim is due))
    (fit.sum_is ∙ sym (erase_sum start contents past tag sb victim after))
  where
    and_true : (b : Bool) → (b && true) ≡ b
    and_true true = refl
    and_true false = refl

-- ---- an erase that stopped

-- what is known after it
record UnerasedWith (start : Start) (contents : List (Tag × List ℕ)) (past : List Entry) (entry : Entry) (sb die : ℕ)
    (sum : List ℕ) (new : List DieState) : Type 0 where
  pub pages : (place : Place) → IsTrue (has_place start.base.shape place)
      → told_page new place ≡ changed_levels start contents past [] place
      (change_when (place.sb == sb && nat_lt place.die die) empties)
  pub due : AreDue start.base.shape (blocks_of start.base (entry ∷ past)) new

unerased_with : (start : Start) (contents : List (Tag × List ℕ)) (past : List Entry) (entry : Entry) (sb die : ℕ) (sum : List ℕ)
    (P : DieState → DieState → Type 0) (old new : List DieState)
    → blocks_of start.base (entry ∷ past) ≡ with_retired (blocks_of start.base past) sb
    → AreDue start.base.shape (blocks_of start.base past) old → TellsTheSame P
    → StopsErase start.base.shape.dies sb die P old new
    → DiesFit start contents past old sum → UnerasedWith start contents past entry sb die sum new
unerased_with start contents past entry sb die sum P old new after due tells stops fit = record {
  pages = λ place range.
      let low = (place_in_range start.base.shape place range).die in
      by_order (told_page new place ≡ changed_levels start contents past [] place
      (change_when (place.sb == sb && nat_lt place.die die) empties)) place.die die
      (λ lt. page_by_erase start contents past sum sb old new place (nat_lt place.die die) fit range
      (test_less place.die die lt)
      (erased_below die sb old new stops.below place.die lt) (due.blocks_count place.die low))
      (λ here. page_by_none start contents past sum sb old new place (nat_lt place.die die) fit range
      (test_not place.die die (omega arith))
      (subst (λ (n : ℕ). blocks_told new n ≡ blocks_told old n) (sym here)
      (tells (die_at old die) (die_at new die) stops.stopped)))
      (λ more. page_by_none start contents past sum sb old new place (nat_lt place.die die) fit range
      (test_not place.die die (omega arith))
      (told_same old new place.die (stops.above place.die (omega arith))));
  due =
      subst (λ (blocks : List BlockBase). AreDue start.base.shape blocks new) (sym after)
      (due_retired start.base.shape (blocks_of start.base past) old new sb (blocks_number start past)
      (λ other lt. unerased_blocks start.base.shape.dies sb die P old new tells stops other) due);
}
  where
    test_less : (a b : ℕ) → a < b → nat_lt a b ≡ true
    test_less a b lt = grind (arith, nat_tests)

    test_not : (a b : ℕ) → b ≤ a → nat_lt a b ≡ false
    test_not a b le = grind (arith, nat_tests)

-- the plans and counts of the dies but the one that stopped
pub other_dies_counted : (count sb die : ℕ) (P : DieState → DieState → Type 0) (old new : List DieState)
    → StopsErase count sb die P old new
    → (other : ℕ) → other ≢ die → StaysCounted (die_at old other) (die_at new other)
other_dies_counted count sb die P old new stops other far =
    by_order (StaysCounted (die_at old other) (die_at new other)) other die
    (λ lt. erased_counted die sb old new stops.below other lt)
    (λ here. absurd (far here))
    (λ more. same_counted (die_at old other) (die_at new other) (stops.above other (omega arith)))

-- after a lawful erase that failed, where a block answered FAIL
pub bad_erase_fits : (ladder : List Entry → ℕ → LadderState) (start : Start) (contents : List (Tag × List ℕ))
    (past : List Entry) (tag : Tag) (sb die : ℕ) (sum : List ℕ) (old new : List DieState)
    → IsLawfulBy ladder start.base (made tag (Kind.BadErase sb die false) ∷ past)
    → AreDue start.base.shape (blocks_of start.base past) old
    → StopsErase start.base.shape.dies sb die (RefusesBlock sb) old new
    → DiesFit start contents past old sum → DiesFit start contents (made tag (Kind.BadErase sb die false) ∷ past) new sum
bad_erase_fits ladder start contents past tag sb die sum old new lawful due stops fit =
    let entry : Entry = made tag (Kind.BadErase sb die false) in
    let after : blocks_of start.base (entry ∷ past) ≡ with_retired (blocks_of start.base past) sb =
    blocks_after_entry ladder start.base entry past lawful in
    let there : UnerasedWith start contents past entry sb die sum new =
    unerased_with start contents past entry sb die sum (RefusesBlock sb) old new after due (refused_tells sb) stops fit in
    fits_counted start contents past entry old new sum sum fit (λ other. refl)
    (λ other lt. elim (cases_eq other die) [
      | inl here ↦ subst (λ (n : ℕ). StaysCounted (die_at old n) (die_at new n)) (sym here)
          (kept_counted (die_at old die) (die_at new die) stops.stopped.keeps)
      | inr far ↦ other_dies_counted start.base.shape.dies sb die (RefusesBlock sb) old new stops other far
    ])
    there.pages there.due
    (fit.sum_is ∙ sym (bad_erase_sum start contents past tag sb die false lawful.1.meets.may_erase.is_victim after))

-- where a die's call failed
pub fault_erase_fits : (ladder : List Entry → ℕ → LadderState) (start : Start) (contents : List (Tag × List ℕ))
    (past : List Entry) (tag : Tag) (sb die : ℕ) (sum : List ℕ) (old new : List DieState)
    → IsLawfulBy ladder start.base (made tag (Kind.BadErase sb die true) ∷ past)
    → AreDue start.base.shape (blocks_of start.base past) old → StopsErase start.base.shape.dies sb die FaultsDie old new
    → DiesFit start contents past old sum → DiesFit start contents (made tag (Kind.BadErase sb die true) ∷ past) new sum
fault_erase_fits ladder start contents past tag sb die sum old new lawful due stops fit =
    let entry : Entry = made tag (Kind.BadErase sb die true) in
    let after : blocks_of start.base (entry ∷ past) ≡ with_retired (blocks_of start.base past) sb =
    blocks_after_entry ladder start.base entry past lawful in
    let there : UnerasedWith start contents past entry sb die sum new =
    unerased_with start contents past entry sb die sum FaultsDie old new after due faulted_tells stops fit in
    fits_faulted start contents past entry die old new sum sum fit (λ other. refl) stops.stopped
    (λ other lt far. other_dies_counted start.base.shape.dies sb die FaultsDie old new stops other far)
    there.pages there.due
    (fit.sum_is ∙ sym (bad_erase_sum start contents past tag sb die true lawful.1.meets.may_erase.is_victim after))

-- ---- a pick

pub sealed_good : (state : SbState) → is_sealed state ≡ true → is_bad state ≡ false
sealed_good SbState.Sealed e = refl
sealed_good SbState.Bad e = absurd (grind (arith, e))
sealed_good SbState.Free e = refl
sealed_good SbState.Frontier e = refl
sealed_good SbState.Victim e = refl

-- after a lawful pick
pub pick_fits : (ladder : List Entry → ℕ → LadderState) (start : Start) (contents : List (Tag × List ℕ)) (past : List Entry)
    (tag : Tag) (sb : ℕ) (sum : List ℕ) (dies : List DieState)
    → IsLawfulBy ladder start.base (made tag (Kind.Pick sb) ∷ past)
    → AreDue start.base.shape (blocks_of start.base past) dies
    → DiesFit start contents past dies sum → DiesFit start contents (made tag (Kind.Pick sb) ∷ past) dies sum
pick_fits ladder start contents past tag sb sum dies lawful due fit =
    let entry : Entry = made tag (Kind.Pick sb) in
    let after : blocks_of start.base (entry ∷ past) ≡ with_victim (blocks_of start.base past) sb =
    blocks_after_entry ladder start.base entry past lawful in
    let low : sb < start.base.shape.superblocks = below sb start.base.shape.superblocks lawful.1.in_range in
    let sealed : is_sealed (block_at (blocks_of start.base past) sb).state ≡ true =
    candidate_sealed start.base past sb low lawful.1.meets.is_candidate in
    fits_counted start contents past entry dies dies sum sum fit (λ die. refl)
    (λ die lt. kept_counted (die_at dies die) (die_at dies die) (keeps_itself (die_at dies die)))
    fit.pages_are
    (subst (λ (blocks : List BlockBase). AreDue start.base.shape blocks dies) (sym after)
    (due_picked start.base.shape (blocks_of start.base past) dies sb (blocks_number start past)
    (sealed_good (block_at (blocks_of start.base past) sb).state sealed) due))
    (fit.sum_is ∙ sym (pick_sum start contents past tag sb sealed after))
