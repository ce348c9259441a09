-- Which channels are read from their first sense? Those whose first read level tells the cells apart, whatever their noise: it
-- is above each level that an erased cell may have, and above none that a programmed one may have. Each law is the contract of
-- a function without a body.
use Rattle.std.specs.Prelude.{ℕ, ◌≡◌, ◌<◌, Bool, List, Some, slice_get, All, ℤ, pos, ◌+ℤ◌, ◌-ℤ◌, ◌<ℤ◌, ◌≤ℤ◌}
use Rattle.ssd_geo.specs.BaseMatrix.{IsAccepted}
use Rattle.ssd_geo.specs.Coding.{matrix_of}
use Rattle.ssd_geo.specs.declared.base.ChannelBase.{ChannelBase}
use Rattle.ssd_geo.specs.declared.cell_law.CellLaw.{CellLaw}
use Rattle.ssd_geo.specs.declared.entry.Entry.{Entry}
use Rattle.ssd_geo.specs.declared.row.Row.{Row}
use Rattle.ssd_geo.specs.declared.slot.Slot.{Slot}
use Rattle.ssd_geo.specs.declared.tag.Tag.{Tag}
use Rattle.ssd_histories.specs.PastRows.{row_of}
use Rattle.ssd_histories.specs.PlainMap.{bytes, plain_of}
use Rattle.ssd_histories.specs.Start.{Start}
use Rattle.recovery_laws.specs.RecoveredReads.{IsWrittenPast}
use Rattle.run_laws.specs.FirstSenses.{IsNoAgeing, IsReadAtOnce, ReadsBack}

-- the first of some read levels tells the cells of a law apart: it is above the erased level with the most noise, and at most
-- the programmed level with the least
pub record TellsApart (read_levels : List ℤ) (law : CellLaw) : Type 0 where
  pub level : ℤ
  pub is_first : slice_get read_levels 0 ≡ Some level
  pub above_erased : (law.erased +ℤ pos law.spread) <ℤ level
  pub not_above_programmed : level ≤ℤ (law.programmed -ℤ pos law.spread)

-- the words of a channel with such a level and an accepted code are read from their first sense
abbrev pub ToldLevelsReadBack : Type 0
ToldLevelsReadBack = (base : ChannelBase) → IsAccepted (matrix_of base) → TellsApart base.read_levels base.law → ReadsBack base

-- so each page that a row names is read at once, where the row has data by its writes and trims: in every lawful past without
-- an ageing, whatever was copied, erased or failed
abbrev pub ToldPagesAreReadAtOnce : Type 0
ToldPagesAreReadAtOnce =
    (start : Start) (contents : List (Tag × List ℕ)) (past : List Entry) (tag : Tag) (row : ℕ) (slot : Slot) (serial : ℕ)
    (closed : Bool) (data_bytes : List ℕ) →
    IsAccepted (matrix_of start.base) → TellsApart start.base.read_levels start.base.law → IsWrittenPast start contents past →
    All (λ entry. IsNoAgeing entry.kind) past → row < start.base.shape.rows →
    row_of start.base past row ≡ Row.Page slot serial → plain_of start.base contents past row ≡ bytes data_bytes →
    IsReadAtOnce start contents tag row slot serial closed past
