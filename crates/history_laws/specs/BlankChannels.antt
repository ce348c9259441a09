-- Can a channel that begins blank refuse a write? Not before a call of one of its dies fails, if the image has no weak
-- block of it: then no entry is of a bad kind, so the reserve stays and no superblock turns bad. Each law is the contract
-- of a function without a body.
use Rattle.std.specs.Prelude.{ℕ, ◌≡◌, ◌==◌, Bool, false, ◌||◌, not, IsTrue, List, []}
use Rattle.std.specs.List.{list_all, list_any}
use Rattle.ssd_geo.specs.Ladder.{LadderState}
use Rattle.ssd_geo.specs.declared.base.BlockBase.{BlockBase}
use Rattle.ssd_geo.specs.declared.base.ChannelBase.{ChannelBase}
use Rattle.ssd_geo.specs.declared.entry.Entry.{Entry}
use Rattle.ssd_geo.specs.declared.kind.Kind.{Kind}
use Rattle.ssd_histories.specs.Blocks.{is_free_block}
use Rattle.ssd_histories.specs.Lawful.{IsLawfulBy, IsLawfulRefused}
use Rattle.ssd_histories.specs.Room.{is_full}
use Rattle.ssd_histories.specs.Standing.{IsStart}
use Rattle.ssd_histories.specs.Start.{Start}
use Rattle.history_laws.specs.KeptReserve.{IsReserved}
use Rattle.history_laws.specs.NeverFull.{RowsFit, is_bad_block}

-- whether a superblock is free or bad, as all those of a blank image are
abbrev pub is_free_or_bad : BlockBase → Bool
is_free_or_bad block = is_free_block block || is_bad_block block

-- whether the image has no weak block of this channel
abbrev pub has_no_weak_block : ChannelBase → Bool
has_no_weak_block base = not (list_any (λ weak. weak.channel == base.channel) base.weak)

-- a base is blank and has no weak block: its superblocks are free or bad, and its rows fit beside the bad ones
pub record IsBlankAndSound (base : ChannelBase) : Type 0 where
  pub free_or_bad : IsTrue (list_all is_free_or_bad base.blocks)
  pub rows_fit : RowsFit base []
  pub none_weak : IsTrue (has_no_weak_block base)

-- whether an entry tells of a program or an erase in which the call of a die failed
abbrev pub is_bad_by_fault : Kind → Bool
is_bad_by_fault (Kind.BadWrite row slot die fault) = fault
is_bad_by_fault (Kind.BadCopy at slot die fault) = fault
is_bad_by_fault (Kind.BadErase sb die fault) = fault
is_bad_by_fault _ = false

-- whether no entry of a past does
abbrev pub has_no_bad_by_fault : List Entry → Bool
has_no_bad_by_fault past = list_all (λ entry. not (is_bad_by_fault entry.kind)) past

-- a channel has the reserve, isn't worn and isn't full
pub record TakesWrites (base : ChannelBase) (past : List Entry) : Type 0 where
  pub reserved : IsReserved base past
  pub not_full : is_full base past ≡ false

-- so no refusal of a write is lawful
abbrev pub NoneIsRefused : Type 0
NoneIsRefused =
    (base : ChannelBase) (past : List Entry) (worn : Bool) →
    TakesWrites base past → IsLawfulRefused base past worn → ⊥

-- from a blank base without weak blocks a channel takes writes as long as no call of a die fails
abbrev pub BlankChannelsTakeWrites : Type 0
BlankChannelsTakeWrites =
    (ladder : List Entry → ℕ → LadderState) (start : Start) (past : List Entry) →
    IsStart start → IsBlankAndSound start.base → IsLawfulBy ladder start.base past → IsTrue (has_no_bad_by_fault past) →
    TakesWrites start.base past
