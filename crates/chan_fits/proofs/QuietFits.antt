-- The dies and the running sum fit a past after an entry that programs, erases and ages nothing, where the dies keep what
-- they tell: after a look, a leave or a trim, a sense or one that failed, and whatever else is only told.
use Rattle.std.proofs.Common.{◌≡◌, ◌≢◌, ℕ, ◌<◌, ◌==◌, true, false, List, ◌∷◌, ℤ, refl, ap, sym, ◌∙◌, subst, Option, Some, arith}
use Rattle.std.proofs.Common.{IsTrue, inl, inr}
use Rattle.std.specs.Prelude.{IsFalse, slice_get}
use Rattle.std.proofs.lemmas.Bool.{cases_eq}
use Rattle.std.proofs.lemmas.Bool.Decides.{nat_tests}
use Rattle.ssd_geo.specs.BlockCells.{BlockCells, cells_at}
use Rattle.ssd_geo.specs.Coding.{coding_of}
use Rattle.ssd_geo.specs.declared.base.BlockBase.{BlockBase}
use Rattle.ssd_geo.specs.declared.base.ChannelBase.{ChannelBase}
use Rattle.ssd_geo.specs.declared.entry.Entry.{Entry}
use Rattle.ssd_geo.specs.declared.kind.Kind.{Kind}
use Rattle.ssd_geo.specs.declared.place.Place.{Place}
use Rattle.ssd_geo.specs.declared.tag.Tag.{Tag}
use Rattle.ssd_histories.specs.PastBlocks.{blocks_of, erases_of, state_of}
use Rattle.ssd_histories.specs.PastPages.{running_sum}
use Rattle.ssd_histories.specs.Ranges.{has_place}
use Rattle.ssd_histories.specs.Standing.{CountsFaults, is_fault_of}
use Rattle.ssd_histories.specs.Start.{Start}
use Rattle.ssd_histories.specs.States.{is_bad}
use Rattle.ssd_histories.proofs.UsedSlots.{block_is, made}
use Rattle.onfi_cmd.specs.DieState.{DieState}
use Rattle.onfi_cmd.specs.declared.plan.DiePlan.{DiePlan}
use Rattle.chan_dies.specs.DiesState.{blocks_told, die_at}
use Rattle.chan_dies.specs.OneDie.{ChangesDie, FaultsDie, KeepsDie}
use Rattle.chan_fits.specs.DiesFit.{AreDue, DiesFit, plan_of, stored_levels, told_erases, told_page}
use Rattle.chan_fits.proofs.BlockChanges.{told_faulted, told_kept, told_same}
use Rattle.chan_fits.proofs.DieCounts.{counts_kept, counts_more}
use Rattle.chan_fits.proofs.DueDies.{due_stays}
use Rattle.chan_fits.proofs.PlacesInRange.{place_in_range}

-- ---- parts of a fit

-- a table that is due gives the erases of each superblock that isn't bad
pub erases_by_due : (base : ChannelBase) (past : List Entry) (dies : List DieState)
    → AreDue base.shape (blocks_of base past) dies
    → (die sb : ℕ) → die < base.shape.dies → sb < base.shape.superblocks → IsFalse (is_bad (state_of base past sb))
    → told_erases dies die sb ≡ erases_of base past sb
erases_by_due base past dies due die sb lt within good =
    due.erases_due die sb lt within (subst (λ (block : BlockBase). IsFalse (is_bad block.state))
    (sym (block_is base past sb within)) good)
    ∙ ap {B = ℕ} (λ (block : BlockBase). block.erases) (block_is base past sb within)

-- a die's plan and counts stay
pub record StaysCounted (old new : DieState) : Type 0 where
  pub plan_stays : new.plan ≡ old.plan
  pub works_stay : new.work_count ≡ old.work_count
  pub loads_stay : new.load_count ≡ old.load_count

pub kept_counted : (old new : DieState) → KeepsDie old new → StaysCounted old new
kept_counted old new keeps = record {
  plan_stays = keeps.plan_stays;
  works_stay = keeps.works_stay;
  loads_stay = keeps.loads_stay;
}

pub same_counted : (old new : DieState) → new ≡ old → StaysCounted old new
same_counted old new same = record {
  plan_stays = ap {B = Option DiePlan} (λ (state : DieState). state.plan) same;
  works_stay = ap {B = ℕ} (λ (state : DieState). state.work_count) same;
  loads_stay = ap {B = ℕ} (λ (state : DieState). state.load_count) same;
}

-- the dies fit a longer past where all plans and counts stay, and the entry tells of no fault
pub fits_counted : (start : Start) (contents : List (Tag × List ℕ)) (past : List Entry) (entry : Entry)
    (old new : List DieState) (sum after : List ℕ)
    → DiesFit start contents past old sum → ((die : ℕ) → is_fault_of die entry ≡ false)
    → ((die : ℕ) → die < start.base.shape.dies → StaysCounted (die_at old die) (die_at new die))
    → ((place : Place) → IsTrue (has_place start.base.shape place)
    → told_page new place ≡ stored_levels start contents (entry ∷ past) place)
    → AreDue start.base.shape (blocks_of start.base (entry ∷ past)) new
    → after ≡ running_sum (coding_of start.base) start contents (entry ∷ past)
    → DiesFit start contents (entry ∷ past) new after
fits_counted start contents past entry old new sum after fit none stays pages due sum_is = record {
  plans_are = λ die lt. (stays die lt).plan_stays ∙ fit.plans_are die lt;
  pages_are = pages;
  erases_are = erases_by_due start.base (entry ∷ past) new due;
  counts = λ die lt. counts_kept start past entry die (die_at old die) (die_at new die) (none die) (stays die lt).works_stay
      (stays die lt).loads_stay (fit.counts die lt);
  sum_is = sum_is;
}

-- they fit where one die counted a fault, of which the entry tells
pub fits_faulted : (start : Start) (contents : List (Tag × List ℕ)) (past : List Entry) (entry : Entry) (die : ℕ)
    (old new : List DieState) (sum after : List ℕ)
    → DiesFit start contents past old sum → ((other : ℕ) → is_fault_of other entry ≡ (die == other))
    → FaultsDie (die_at old die) (die_at new die)
    → ((other : ℕ) → other < start.base.shape.dies → other ≢ die → StaysCounted (die_at old other) (die_at new other))
    → ((place : Place) → IsTrue (has_place start.base.shape place)
    → told_page new place ≡ stored_levels start contents (entry ∷ past) place)
    → AreDue start.base.shape (blocks_of start.base (entry ∷ past)) new
    → after ≡ running_sum (coding_of start.base) start contents (entry ∷ past)
    → DiesFit start contents (entry ∷ past) new after
fits_faulted start contents past entry die old new sum after fit told faults stays pages due sum_is = record {
  plans_are = λ other lt. elim (cases_eq other die) [
    | inl here ↦
        subst (λ (n : ℕ). (die_at new n).plan ≡ Some (plan_of start.base n)) (sym here)
        (faults.plan_stays ∙ fit.plans_are die (subst (λ (n : ℕ). n < start.base.shape.dies) here lt))
    | inr far ↦ (stays other lt far).plan_stays ∙ fit.plans_are other lt
  ];
  pages_are = pages;
  erases_are = erases_by_due start.base (entry ∷ past) new due;
  counts = λ other lt. elim (cases_eq other die) [
    | inl here ↦
        subst (λ (n : ℕ). CountsFaults start (entry ∷ past) n (die_at new n).work_count (die_at new n).load_count) (sym here)
        (counts_more start past entry die (die_at old die) (die_at new die)
        (told die ∙ itself die) faults.rose faults.loads_stay
        (fit.counts die (subst (λ (n : ℕ). n < start.base.shape.dies) here lt)))
    | inr far ↦
        counts_kept start past entry other (die_at old other) (die_at new other) (told other ∙ other_test die other far)
        (stays other lt far).works_stay
        (stays other lt far).loads_stay (fit.counts other lt)
  ];
  sum_is = sum_is;
}
  where
    itself : (n : ℕ) → (n == n) ≡ true
    itself n = grind (arith, nat_tests)

    other_test : (a b : ℕ) → b ≢ a → (a == b) ≡ false
    other_test a b differ = grind (arith, nat_tests)

-- a page of a die that tells what it told
pub page_stays : (old new : List DieState) (place : Place) → blocks_told new place.die ≡ blocks_told old place.die
    → told_page new place ≡ told_page old place
page_stays old new place same = ap {B = Option (List ℤ)}
    (λ (told : List BlockCells). slice_get (cells_at told place.sb).pages place.page) same

-- ---- entries that tell

-- an entry programs, erases and ages nothing, picks no superblock, and tells of no fault of a die
abbrev pub IsQuiet : Kind → Type 0
IsQuiet (Kind.Look row found closed) = Unit {0}
IsQuiet (Kind.Sense at place level) = Unit {0}
IsQuiet (Kind.Leave at) = Unit {0}
IsQuiet (Kind.Trim row) = Unit {0}
IsQuiet (Kind.Changed at found) = Unit {0}
IsQuiet (Kind.Condemn at) = Unit {0}
IsQuiet (Kind.Stay at worn) = Unit {0}
IsQuiet (Kind.Refused row worn) = Unit {0}
IsQuiet (Kind.Note free victim live pins garbage) = Unit {0}
IsQuiet _ = ⊥

-- what such an entry leaves of the past's words
record LeavesAll (start : Start) (contents : List (Tag × List ℕ)) (past : List Entry) (entry : Entry) : Type 0 where
  pub pages : (place : Place) → stored_levels start contents (entry ∷ past) place ≡ stored_levels start contents past place
  pub sums : running_sum (coding_of start.base) start contents (entry ∷ past) ≡ running_sum
      (coding_of start.base) start contents past
  pub tables : blocks_of start.base (entry ∷ past) ≡ blocks_of start.base past

quiet_leaves : (start : Start) (contents : List (Tag × List ℕ)) (past : List Entry) (tag : Tag) (kind : Kind) → IsQuiet kind
    → LeavesAll start contents past (made tag kind)
quiet_leaves start contents past tag (Kind.Look row found closed) quiet =
    record { pages = λ place. refl; sums = refl; tables = refl }
quiet_leaves start contents past tag (Kind.Sense at place level) quiet =
    record { pages = λ place. refl; sums = refl; tables = refl }
quiet_leaves start contents past tag (Kind.Leave at) quiet = record { pages = λ place. refl; sums = refl; tables = refl }
quiet_leaves start contents past tag (Kind.Trim row) quiet = record { pages = λ place. refl; sums = refl; tables = refl }
quiet_leaves start contents past tag (Kind.Changed at found) quiet =
    record { pages = λ place. refl; sums = refl; tables = refl }
quiet_leaves start contents past tag (Kind.Condemn at) quiet = record { pages = λ place. refl; sums = refl; tables = refl }
quiet_leaves start contents past tag (Kind.Stay at worn) quiet = record { pages = λ place. refl; sums = refl; tables = refl }
quiet_leaves start contents past tag (Kind.Refused row worn) quiet =
    record { pages = λ place. refl; sums = refl; tables = refl }
quiet_leaves start contents past tag (Kind.Note free victim live pins garbage) quiet =
    record { pages = λ place. refl; sums = refl; tables = refl }
quiet_leaves start contents past tag _ quiet = absurd quiet

quiet_tells : (tag : Tag) (kind : Kind) → IsQuiet kind → (die : ℕ) → is_fault_of die (made tag kind) ≡ false
quiet_tells tag (Kind.Look row found closed) quiet die = refl
quiet_tells tag (Kind.Sense at place level) quiet die = refl
quiet_tells tag (Kind.Leave at) quiet die = refl
quiet_tells tag (Kind.Trim row) quiet die = refl
quiet_tells tag (Kind.Changed at found) quiet die = refl
quiet_tells tag (Kind.Condemn at) quiet die = refl
quiet_tells tag (Kind.Stay at worn) quiet die = refl
quiet_tells tag (Kind.Refused row worn) quiet die = refl
quiet_tells tag (Kind.Note free victim live pins garbage) quiet die = refl
quiet_tells tag _ quiet die = absurd quiet

-- the dies fit after such an entry, where each keeps what it tells
pub quiet_fits : (start : Start) (contents : List (Tag × List ℕ)) (past : List Entry) (tag : Tag) (kind : Kind)
    (old new : List DieState) (sum : List ℕ) → IsQuiet kind
    → ((die : ℕ) → die < start.base.shape.dies → KeepsDie (die_at old die) (die_at new die))
    → AreDue start.base.shape (blocks_of start.base past) old
    → DiesFit start contents past old sum → DiesFit start contents (made tag kind ∷ past) new sum
quiet_fits start contents past tag kind old new sum quiet keeps due fit =
    let leaves : LeavesAll start contents past (made tag kind) = quiet_leaves start contents past tag kind quiet in
    fits_counted start contents past (made tag kind) old new sum sum fit (quiet_tells tag kind quiet)
    (λ die lt. kept_counted (die_at old die) (die_at new die) (keeps die lt))
    (λ place range.
    page_stays old new place (told_kept (die_at old place.die) (die_at new place.die)
    (keeps place.die (place_in_range start.base.shape place range).die))
    ∙ fit.pages_are place range ∙ sym (leaves.pages place))
    (subst (λ (blocks : List BlockBase). AreDue start.base.shape blocks new) (sym leaves.tables)
    (due_stays start.base.shape (blocks_of start.base past) old new
    (λ die lt. told_kept (die_at old die) (die_at new die) (keeps die lt)) due))
    (fit.sum_is ∙ sym leaves.sums)

-- a die keeps what it tells where it is as it was
pub keeps_itself : (state : DieState) → KeepsDie state state
keeps_itself state = record { plan_stays = refl; told_stay = refl; works_stay = refl; loads_stay = refl }

-- so with the dies as they are
pub told_fits : (start : Start) (contents : List (Tag × List ℕ)) (past : List Entry) (tag : Tag) (kind : Kind)
    (dies : List DieState) (sum : List ℕ) → IsQuiet kind
    → AreDue start.base.shape (blocks_of start.base past) dies
    → DiesFit start contents past dies sum → DiesFit start contents (made tag kind ∷ past) dies sum
told_fits start contents past tag kind dies sum quiet due fit =
    quiet_fits start contents past tag kind dies dies sum quiet (λ die lt. keeps_itself (die_at dies die)) due fit

-- ---- senses

-- one die keeps what it tells, and the others are as they were
pub one_keeps : (die : ℕ) (old new : List DieState) → ChangesDie die KeepsDie old new → (other : ℕ)
    → KeepsDie (die_at old other) (die_at new other)
one_keeps die old new changes other = elim (cases_eq other die) [
  | inl here ↦ subst (λ (n : ℕ). KeepsDie (die_at old n) (die_at new n)) (sym here) changes.changed
  | inr far ↦ subst (λ (state : DieState). KeepsDie (die_at old other) state) (sym (changes.others other far))
      (keeps_itself (die_at old other))
]

-- after a sense of a die
pub sense_fits : (start : Start) (contents : List (Tag × List ℕ)) (past : List Entry) (tag : Tag) (at : ℕ) (place : Place)
    (level : ℤ) (old new : List DieState) (sum : List ℕ)
    → ChangesDie place.die KeepsDie old new → AreDue start.base.shape (blocks_of start.base past) old
    → DiesFit start contents past old sum → DiesFit start contents (made tag (Kind.Sense at place level) ∷ past) new sum
sense_fits start contents past tag at place level old new sum changes due fit =
    quiet_fits start contents past tag (Kind.Sense at place level) old new sum tt
    (λ die lt. one_keeps place.die old new changes die) due fit

-- what a die tells where one counted a fault
pub one_faults : (die : ℕ) (old new : List DieState) → ChangesDie die FaultsDie old new → (other : ℕ)
    → blocks_told new other ≡ blocks_told old other
one_faults die old new changes other = elim (cases_eq other die) [
  | inl here ↦ subst (λ (n : ℕ). blocks_told new n ≡ blocks_told old n) (sym here)
      (told_faulted (die_at old die) (die_at new die) changes.changed)
  | inr far ↦ told_same old new other (changes.others other far)
]

-- after a sense that failed
pub fault_sense_fits : (start : Start) (contents : List (Tag × List ℕ)) (past : List Entry) (tag : Tag) (at : ℕ) (place : Place)
    (level : ℤ) (old new : List DieState) (sum : List ℕ)
    → ChangesDie place.die FaultsDie old new → AreDue start.base.shape (blocks_of start.base past) old
    → DiesFit start contents past old sum → DiesFit start contents (made tag (Kind.FaultSense at place level) ∷ past) new sum
fault_sense_fits start contents past tag at place level old new sum changes due fit =
    fits_faulted start contents past (made tag (Kind.FaultSense at place level)) place.die old new sum sum fit
    (λ other. refl) changes.changed
    (λ other lt far. same_counted (die_at old other) (die_at new other) (changes.others other far))
    (λ here range. page_stays old new here (one_faults place.die old new changes here.die) ∙ fit.pages_are here range)
    (due_stays start.base.shape (blocks_of start.base past) old new (λ die lt. one_faults place.die old new changes die) due)
    fit.sum_is

-- after an ageing that failed
pub fault_age_fits : (start : Start) (contents : List (Tag × List ℕ)) (past : List Entry) (tag : Tag) (die sb amount : ℕ)
    (old new : List DieState) (sum : List ℕ)
    → ChangesDie die FaultsDie old new → AreDue start.base.shape (blocks_of start.base past) old
    → DiesFit start contents past old sum → DiesFit start contents (made tag (Kind.FaultAge die sb amount) ∷ past) new sum
fault_age_fits start contents past tag die sb amount old new sum changes due fit =
    fits_faulted start contents past (made tag (Kind.FaultAge die sb amount)) die old new sum sum fit
    (λ other. refl) changes.changed
    (λ other lt far. same_counted (die_at old other) (die_at new other) (changes.others other far))
    (λ here range. page_stays old new here (one_faults die old new changes here.die) ∙ fit.pages_are here range)
    (due_stays start.base.shape (blocks_of start.base past) old new (λ other lt. one_faults die old new changes other) due)
    fit.sum_is
