-- What is an open look of the small drive's channel good for? A look that was just made may be sensed for, and its page may be
-- moved or condemned; the latter stays so while other calls write, trim, pick and erase.
use Rattle.std.specs.Prelude.{ℕ, ◌<◌, ⊤, length}
use Rattle.ssd_geo.specs.declared.place.Place.{Place}
use Rattle.ssd_geo.specs.declared.tag.Tag.{Tag}
use Rattle.chan_tables.specs.declared.answers.LiveAnswer.{LiveAnswer}
use Rattle.chan_tables.specs.declared.answers.LiveAnswer.TheVariants as live
use Rattle.chan_tables.specs.declared.answers.LookAnswer.{LookAnswer}
use Rattle.chan_tables.specs.declared.answers.LookAnswer.TheVariants as row_looks
use Rattle.chan_state.specs.ChannelState.{ChannelState}
use Rattle.chan_state.specs.Copying.{MayMove}
use Rattle.chan_state.specs.Steps.{MaySense}
use Rattle.room_tests.specs.SmallChannel.{IsTried}

-- a place of the small drive
pub record IsSmallPlace (place : Place) : Type 0 where
  pub die : place.die < 3
  pub sb : place.sb < 4
  pub page : place.page < 2

-- the page of a call's open look may be moved
pub record IsLooked (channel : ChannelState) (tag : Tag) (at : ℕ) : Type 0 where
  pub tried : IsTried channel
  pub may_move : MayMove channel tag at
  pub is_past : at < length channel.past

-- and a sense may be made for it
pub record IsFresh (channel : ChannelState) (tag : Tag) (at : ℕ) : Type 0 where
  pub looked : IsLooked channel tag at
  pub may_sense : MaySense channel tag at

-- this holds of the look that was just made, if one was
abbrev pub IsFreshIfFound : ChannelState → Tag → LookAnswer → Type 0
IsFreshIfFound channel tag (row_looks.Found look) = IsFresh channel tag look.at
IsFreshIfFound channel tag _ = ⊤

abbrev pub IsFreshIfLive : ChannelState → Tag → LiveAnswer → Type 0
IsFreshIfLive channel tag (live.Found look) = IsFresh channel tag look.at
IsFreshIfLive channel tag _ = ⊤

-- a step leaves each open look's page so that it may still be moved
abbrev pub KeepsLooks : ChannelState → ChannelState → Type 0
KeepsLooks old new = (tag : Tag) (at : ℕ) → IsLooked old tag at → IsLooked new tag at
