-- What does a channel begin with? A start is plain data: the channel as an image has it, the limit of its history,
-- what its dies told of their cells, their counts of faults, and the view of its policy where that was told. Contents
-- are the data of writes: a list of tags with their data bytes.
use Rattle.std.specs.Prelude.{ℕ, true, false, List, [], ◌∷◌, replicate, slice_index_or, slice_get, ℤ, Option}
use Rattle.ssd_geo.specs.BlockCells.{BlockCells, cells_at}
use Rattle.ssd_geo.specs.Limits.{page_cells_of}
use Rattle.ssd_geo.specs.Shape.{sizes_of}
use Rattle.ssd_histories.specs.History.{is_same_tag}
use Rattle.ssd_geo.specs.declared.base.ChannelBase.{ChannelBase}
use Rattle.ssd_geo.specs.declared.place.Place.{Place}
use Rattle.ssd_geo.specs.declared.policy_view.PolicyView.{PolicyView}
use Rattle.ssd_geo.specs.declared.tag.Tag.{Tag}

-- what a channel begins with: its base, the limit of its history, for each die the cells of its blocks and its two
-- counts of faults (of runs and ageing, and of the other calls), and the policy's view where it is told
pub record Start : Type 0 where
  pub base : ChannelBase
  pub limit : ℕ
  pub cells : List (List BlockCells)
  pub work_faults : List ℕ
  pub load_faults : List ℕ
  pub view : Option PolicyView

-- the cells of a block at the start
abbrev pub cells_at_start : Start → ℕ → ℕ → BlockCells
cells_at_start start die sb = cells_at (slice_index_or start.cells die []) sb

-- the levels of a page at the start, where it is programmed
abbrev pub image_page : Start → Place → Option (List ℤ)
image_page start place = slice_get (cells_at_start start place.die place.sb).pages place.page

-- the levels of an empty page: the erased one in each cell
abbrev pub empty_levels : ChannelBase → List ℤ
empty_levels base = replicate (page_cells_of (sizes_of base.shape)) base.law.erased

-- the data of a call's write
abbrev pub data_of : List (Tag × List ℕ) → Tag → List ℕ
data_of [] tag = []
data_of (item ∷ contents) tag = elim (is_same_tag item.0 tag) [ true ↦ item.1 | false ↦ data_of contents tag ]
