-- How many live pages can a superblock have? At most as many as it has slots used, and no more slots are used than it
-- has. The law is the contract of a function without a body.
use Rattle.std.specs.Prelude.{ℕ, ◌<◌, ◌≤◌, List}
use Rattle.ssd_geo.specs.Ladder.{LadderState}
use Rattle.ssd_geo.specs.declared.base.ChannelBase.{ChannelBase}
use Rattle.ssd_geo.specs.declared.entry.Entry.{Entry}
use Rattle.ssd_histories.specs.Lawful.{IsLawfulBy}
use Rattle.ssd_histories.specs.PastBlocks.{slots_in, used_of}
use Rattle.ssd_histories.specs.Room.{live_of}
use Rattle.ssd_histories.specs.Standing.{IsStart}
use Rattle.ssd_histories.specs.Start.{Start}

-- the live pages of a superblock are at most its used slots, and these at most its slots
pub record FitsItsSlots (base : ChannelBase) (past : List Entry) (sb : ℕ) : Type 0 where
  pub live : live_of base past sb ≤ used_of base past sb
  pub used : used_of base past sb ≤ slots_in base

-- so it is for each superblock, after every lawful past
abbrev pub LivePagesFit : Type 0
LivePagesFit =
    (ladder : List Entry → ℕ → LadderState) (start : Start) (past : List Entry) (sb : ℕ) →
    IsStart start → IsLawfulBy ladder start.base past → sb < start.base.shape.superblocks →
    FitsItsSlots start.base past sb
