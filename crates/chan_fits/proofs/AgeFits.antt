-- The dies and the running sum fit a past after a block was aged.
use Rattle.std.proofs.Common.{◌≡◌, ◌≢◌, ℕ, ◌<◌, ◌==◌, ◌&&◌, Bool, true, false, List, [], ◌∷◌, length, map, ℤ, refl, ap, sym}
use Rattle.std.proofs.Common.{◌∙◌, subst, Option, Some, None, arith, IsTrue, inl, inr}
use Rattle.std.specs.Prelude.{option_map, slice_get}
use Rattle.std.proofs.lemmas.Bool.{cases_eq, eqb-false, eqb-true}
use Rattle.std.proofs.lemmas.Bool.Decides.{nat_tests}
use Rattle.ssd_geo.specs.BlockCells.{BlockCells, cells_at}
use Rattle.ssd_geo.specs.Cells.{aged_level}
use Rattle.ssd_geo.specs.Coding.{coding_of}
use Rattle.ssd_geo.specs.declared.base.ChannelBase.{ChannelBase}
use Rattle.ssd_geo.specs.declared.entry.Entry.{Entry}
use Rattle.ssd_geo.specs.declared.kind.Kind.{Kind}
use Rattle.ssd_geo.specs.declared.place.Place.{Place}
use Rattle.ssd_geo.specs.declared.tag.Tag.{Tag}
use Rattle.ssd_histories.specs.PastBlocks.{blocks_of}
use Rattle.ssd_histories.specs.PastPages.{StoredPage, ages, aged_page, change_when, page_of}
use Rattle.ssd_histories.specs.Ranges.{has_place}
use Rattle.ssd_histories.specs.Start.{Start}
use Rattle.ssd_histories.proofs.UsedSlots.{made}
use Rattle.onfi_cmd.specs.DieState.{DieState, with_aged}
use Rattle.onfi_cmd.specs.declared.plan.DiePlan.{DiePlan}
use Rattle.chan_dies.specs.DiesState.{blocks_told, die_at}
use Rattle.chan_dies.specs.OneDie.{AgesBlock, ChangesDie, aged_by}
use Rattle.chan_fits.specs.DiesFit.{AreDue, DiesFit, told_page}
use Rattle.chan_fits.proofs.BlockChanges.{told_now, told_same}
use Rattle.chan_fits.proofs.DueAfter.{due_aged}
use Rattle.chan_fits.proofs.ProgramPages.{changed_levels}
use Rattle.chan_fits.proofs.QuietFits.{StaysCounted, fits_counted, page_stays, same_counted}
use Rattle.chan_fits.proofs.ToldBlocks.{aged_elsewhere, aged_here}

-- the levels of a page that was aged
aged_stored : (base : ChannelBase) (amount : ℕ) (page : Option StoredPage)
    → option_map (map (aged_level base.law.erased amount)) (option_map (λ stored. stored.levels) page) ≡ option_map
    (λ stored. stored.levels) (option_map (aged_page base amount) page)
aged_stored base amount None = refl
aged_stored base amount (Some page) = refl

-- what the die tells whose block was aged
told_aged : (start : Start) (contents : List (Tag × List ℕ)) (past : List Entry) (die sb amount : ℕ) (sum : List ℕ)
    (old new : List DieState)
    → DiesFit start contents past old sum → die < start.base.shape.dies → AgesBlock sb amount (die_at old die) (die_at new die)
    → blocks_told new die ≡ with_aged start.base.law.erased (blocks_told old die) sb amount
told_aged start contents past die sb amount sum old new fit low ages_it =
    told_now (die_at old die) (die_at new die) (aged_by (die_at old die).plan (blocks_told old die) sb amount) ages_it
    ∙ ap {B = List BlockCells} (λ (plan : Option DiePlan). aged_by plan (blocks_told old die) sb amount) (fit.plans_are die low)

-- each page after an ageing
age_pages : (start : Start) (contents : List (Tag × List ℕ)) (past : List Entry) (die sb amount : ℕ) (sum : List ℕ)
    (old new : List DieState)
    → DiesFit start contents past old sum → die < start.base.shape.dies → sb < start.base.shape.superblocks
    → length (blocks_told old die) ≡ start.base.shape.superblocks
    → ChangesDie die (AgesBlock sb amount) old new → (place : Place) → IsTrue (has_place start.base.shape place)
    → told_page new place ≡ changed_levels start contents past [] place
    (change_when (place.die == die && place.sb == sb) (ages amount))
age_pages start contents past die sb amount sum old new fit low within count changes place range =
    by_die (place.die == die) refl
  where
    changed : Bool → Option (List ℤ)
    changed b = changed_levels start contents past [] place (change_when b (ages amount))

    now : blocks_told new die ≡ with_aged start.base.law.erased (blocks_told old die) sb amount
    now = told_aged start contents past die sb amount sum old new fit low changes.changed

    in_die : (blocks : List BlockCells) → Option (List ℤ)
    in_die blocks = slice_get (cells_at blocks place.sb).pages place.page

    by_block : (b : Bool) → (place.sb == sb) ≡ b → place.die ≡ die → told_page new place ≡ changed (place.sb == sb)
    by_block true e here =
        let same : place.sb ≡ sb = eqb-true place.sb sb e in
        ap {B = Option (List ℤ)} (λ (n : ℕ). in_die (blocks_told new n)) here ∙ ap {B = Option (List ℤ)} in_die now
        ∙ ap {B = Option (List ℤ)} (λ (n : ℕ). slice_get
        (cells_at (with_aged start.base.law.erased (blocks_told old die) sb amount) n).pages place.page) same
        ∙ aged_here start.base.law.erased (blocks_told old die) sb amount place.page (omega (arith, count))
        ∙ ap {B = Option (List ℤ)} (λ (n : ℕ). option_map (map (aged_level start.base.law.erased amount))
        (slice_get (cells_at (blocks_told old die) n).pages place.page)) (sym same)
        ∙ ap {B = Option (List ℤ)} (λ (n : ℕ). option_map (map (aged_level start.base.law.erased amount))
        (in_die (blocks_told old n))) (sym here)
        ∙ ap {B = Option (List ℤ)} (option_map (map (aged_level start.base.law.erased amount))) (fit.pages_are place range)
        ∙ aged_stored start.base amount (page_of (coding_of start.base) start contents past place)
        ∙ sym (ap {B = Option (List ℤ)} changed e)
    by_block false e here =
        ap {B = Option (List ℤ)} (λ (n : ℕ). in_die (blocks_told new n)) here ∙ ap {B = Option (List ℤ)} in_die now
        ∙ ap {B = Option (List ℤ)} (λ (c : BlockCells). slice_get c.pages place.page)
        (aged_elsewhere start.base.law.erased (blocks_told old die) sb amount place.sb (eqb-false place.sb sb e))
        ∙ ap {B = Option (List ℤ)} (λ (n : ℕ). in_die (blocks_told old n)) (sym here)
        ∙ fit.pages_are place range
        ∙ sym (ap {B = Option (List ℤ)} changed e)

    by_die : (b : Bool) → (place.die == die) ≡ b → told_page new place ≡ changed (place.die == die && place.sb == sb)
    by_die true e =
        by_block (place.sb == sb) refl (eqb-true place.die die e)
        ∙ sym (ap {B = Option (List ℤ)} (λ (b : Bool). changed (b && place.sb == sb)) e)
    by_die false e =
        page_stays old new place (told_same old new place.die (changes.others place.die (eqb-false place.die die e)))
        ∙ fit.pages_are place range
        ∙ sym (ap {B = Option (List ℤ)} (λ (b : Bool). changed (b && place.sb == sb)) e)

-- after an ageing
pub age_fits : (start : Start) (contents : List (Tag × List ℕ)) (past : List Entry) (tag : Tag) (die sb amount : ℕ)
    (sum : List ℕ) (old new : List DieState)
    → die < start.base.shape.dies → sb < start.base.shape.superblocks
    → AreDue start.base.shape (blocks_of start.base past) old → ChangesDie die (AgesBlock sb amount) old new
    → DiesFit start contents past old sum → DiesFit start contents (made tag (Kind.Age die sb amount) ∷ past) new sum
age_fits start contents past tag die sb amount sum old new low within due changes fit =
    fits_counted start contents past (made tag (Kind.Age die sb amount)) old new sum sum fit (λ other. refl)
    (λ other lt. elim (cases_eq other die) [
      | inl here ↦
          subst (λ (n : ℕ). StaysCounted (die_at old n) (die_at new n)) (sym here)
          (record {
            plan_stays = changes.changed.plan_stays;
            works_stay = changes.changed.works_stay;
            loads_stay = changes.changed.loads_stay;
          })
      | inr far ↦ same_counted (die_at old other) (die_at new other) (changes.others other far)
    ])
    (age_pages start contents past die sb amount sum old new fit low within (due.blocks_count die low) changes)
    (due_aged start.base.shape (blocks_of start.base past) old new die sb amount within changes.others changes.changed due)
    fit.sum_is
