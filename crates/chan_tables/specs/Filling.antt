-- How is the table of the superblocks filled? First with each superblock's state, then the rows add its live pages, and the
-- open looks its pins.
use Rattle.std.specs.Prelude.{ℕ, ◌≡◌, ◌+◌, ◌<◌, Bool, if◌then◌else◌, List, length, slice_index_or}
use Rattle.ssd_histories.specs.OpenLooks.{looks_in}
use Rattle.ssd_histories.specs.PageMap.{live_in}
use Rattle.ssd_histories.specs.Policies.{no_info}
use Rattle.ssd_geo.specs.declared.base.BlockBase.{BlockBase}
use Rattle.ssd_geo.specs.declared.look.Look.{Look}
use Rattle.ssd_geo.specs.declared.row.Row.{Row}
use Rattle.ssd_geo.specs.declared.superblock.SbInfo.{SbInfo}
use Rattle.ssd_geo.specs.declared.tag.Tag.{Tag}

-- what a table tells of the superblock with this number
abbrev pub info_at : List SbInfo → ℕ → SbInfo
info_at infos sb = slice_index_or infos sb no_info

-- what is told of a superblock, of so many slots, before any live page and any pin is counted
abbrev pub info_of_block : ℕ → BlockBase → SbInfo
info_of_block slots block = record { state = block.state; live = 0; slots = slots; erases = block.erases; pins = 0 }

-- a table after the live pages of rows were counted in it, and after open looks were
pub record HasLive (rows : List Row) (old new : List SbInfo) : Type 0 where
  pub count : length new ≡ length old
  pub live_is : (sb : ℕ) → sb < length old → info_at new sb ≡ record (info_at old sb) { live = live_in rows sb }

pub record HasPins (pins : List (Tag × Look)) (old new : List SbInfo) : Type 0 where
  pub count : length new ≡ length old
  pub pins_are : (sb : ℕ) → sb < length old → info_at new sb ≡ record (info_at old sb) { pins = looks_in pins sb }

-- what is told of a superblock with one more live page, and with one more pin
abbrev pub with_live : SbInfo → SbInfo
with_live info = record info { live = info.live + 1 }

abbrev pub with_pin : SbInfo → SbInfo
with_pin info = record info { pins = info.pins + 1 }

-- a table after one more live page was counted in the superblocks that pass a test, and after one more pin was
pub record HasOneLive (test : ℕ → Bool) (old new : List SbInfo) : Type 0 where
  pub count : length new ≡ length old
  pub live_is :
      (sb : ℕ) → sb < length old
      → info_at new sb ≡ record (info_at old sb) { live = (info_at old sb).live + (if test sb then 1 else 0) }

pub record HasOnePin (test : ℕ → Bool) (old new : List SbInfo) : Type 0 where
  pub count : length new ≡ length old
  pub pins_are :
      (sb : ℕ) → sb < length old
      → info_at new sb ≡ record (info_at old sb) { pins = (info_at old sb).pins + (if test sb then 1 else 0) }
