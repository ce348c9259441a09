-- Can all room for the host be taken by live pages? Not while the rows of the page map fit beside the superblocks that
-- are bad: those that aren't bad then have two superblocks' slots more than there are rows, so where only one of them is
-- free another has garbage. An image's rows fit beside its factory bad superblocks. Each law is the contract of a function
-- without a body.
use Rattle.std.specs.Prelude.{ℕ, ◌≡◌, ◌≤◌, Bool, false, IsTrue, List, ◌++◌, count_by}
use Rattle.ssd_geo.specs.Limits.{most_rows_of}
use Rattle.ssd_geo.specs.Shape.{sizes_of}
use Rattle.ssd_geo.specs.declared.base.BlockBase.{BlockBase}
use Rattle.ssd_geo.specs.declared.base.ChannelBase.{ChannelBase}
use Rattle.ssd_geo.specs.declared.entry.Entry.{Entry}
use Rattle.ssd_histories.specs.PastBlocks.{blocks_of}
use Rattle.ssd_histories.specs.Reserve.{has_no_bad_kind}
use Rattle.ssd_histories.specs.Room.{is_full}
use Rattle.ssd_histories.specs.States.{is_bad}

-- how many superblocks are bad
abbrev pub is_bad_block : BlockBase → Bool
is_bad_block block = is_bad block.state

abbrev pub count_of_bad : ChannelBase → List Entry → ℕ
count_of_bad base past = count_by is_bad_block (blocks_of base past)

-- the rows fit beside the superblocks that are bad
abbrev pub RowsFit : ChannelBase → List Entry → Type 0
RowsFit base past = base.shape.rows ≤ most_rows_of (sizes_of base.shape) (count_of_bad base past)

-- where they do, the channel isn't full, whatever its past
abbrev pub FittingRowsLeaveRoom : Type 0
FittingRowsLeaveRoom =
    (base : ChannelBase) (past : List Entry) → RowsFit base past → is_full base past ≡ false

-- and it doesn't become full by newer entries of which none is of a bad kind, since no superblock turns bad by them
abbrev pub NeverFull : Type 0
NeverFull =
    (base : ChannelBase) (newer past : List Entry) → RowsFit base past → IsTrue (has_no_bad_kind newer) →
    is_full base (newer ++ past) ≡ false
