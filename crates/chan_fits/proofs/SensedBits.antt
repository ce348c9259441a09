-- What the dies tell of a page is what the past says, so a sense of it gives the bits that the past gives.
use Rattle.std.proofs.Common.{◌≡◌, ℕ, List, ℤ, refl, ap, sym, ◌∙◌, Option, Some, None, IsTrue}
use Rattle.std.specs.Prelude.{option_map, unwrap_or}
use Rattle.std.proofs.lemmas.Option.{unwrap_or-slice_get}
use Rattle.ssd_geo.specs.BlockCells.{cells_at}
use Rattle.ssd_geo.specs.Cells.{sensed}
use Rattle.ssd_geo.specs.Coding.{coding_of}
use Rattle.ssd_geo.specs.declared.base.ChannelBase.{ChannelBase}
use Rattle.ssd_geo.specs.declared.entry.Entry.{Entry}
use Rattle.ssd_geo.specs.declared.place.Place.{Place}
use Rattle.ssd_geo.specs.declared.tag.Tag.{Tag}
use Rattle.ssd_histories.specs.PastPages.{StoredPage, levels_in, levels_of, page_of, sense_of}
use Rattle.ssd_histories.specs.Ranges.{has_place}
use Rattle.ssd_histories.specs.Start.{Start, empty_levels}
use Rattle.onfi_cmd.specs.DieState.{DieState}
use Rattle.onfi_cmd.specs.declared.plan.DiePlan.{DiePlan}
use Rattle.chan_dies.specs.DiesState.{blocks_told, levels_at, levels_by}
use Rattle.chan_fits.specs.DiesFit.{DiesFit}
use Rattle.chan_fits.proofs.PlacesInRange.{place_in_range}

levels_stored : (base : ChannelBase) (page : Option StoredPage)
    → unwrap_or (option_map (λ stored. stored.levels) page) (empty_levels base) ≡ levels_in base page
levels_stored base None = refl
levels_stored base (Some page) = refl

-- the levels of a page of the dies are those of the past
pub levels_are : (start : Start) (contents : List (Tag × List ℕ)) (past : List Entry) (dies : List DieState) (sum : List ℕ)
    (place : Place)
    → IsTrue (has_place start.base.shape place) → DiesFit start contents past dies sum
    → levels_at dies place ≡ levels_of (coding_of start.base) start contents past place
levels_are start contents past dies sum place range fit =
    ap {B = List ℤ} (λ (plan : Option DiePlan). levels_by plan (blocks_told dies place.die) place.sb place.page)
    (fit.plans_are place.die (place_in_range start.base.shape place range).die)
    ∙ sym (unwrap_or-slice_get (cells_at (blocks_told dies place.die) place.sb).pages place.page (empty_levels start.base))
    ∙ ap {B = List ℤ} (λ (levels : Option (List ℤ)). unwrap_or levels (empty_levels start.base)) (fit.pages_are place range)
    ∙ levels_stored start.base (page_of (coding_of start.base) start contents past place)

-- so a sense gives the past's bits
pub sensed_is : (start : Start) (contents : List (Tag × List ℕ)) (past : List Entry) (dies : List DieState) (sum : List ℕ)
    (place : Place) (level : ℤ)
    → IsTrue (has_place start.base.shape place) → DiesFit start contents past dies sum
    → sensed level (levels_at dies place) ≡ sense_of (coding_of start.base) start contents past place level
sensed_is start contents past dies sum place level range fit =
    ap {B = List ℕ} (sensed level) (levels_are start contents past dies sum place range fit)
