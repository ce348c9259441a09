-- Does the reserve stay? Where it holds at some position, it holds after each later entry, as long as none of them is of
-- a bad kind: a write leaves a superblock free, a copy out of the victim uses one slot and frees one live page, and an
-- erase frees a superblock. So a channel that has it isn't worn before a program or an erase fails. Each law is the
-- contract of a function without a body.
use Rattle.std.specs.Prelude.{ℕ, ◌≡◌, false, IsTrue, List, ◌∷◌, ◌++◌}
use Rattle.ssd_geo.specs.Ladder.{LadderState}
use Rattle.ssd_geo.specs.declared.base.ChannelBase.{ChannelBase}
use Rattle.ssd_geo.specs.declared.entry.Entry.{Entry}
use Rattle.ssd_geo.specs.declared.kind.Kind.{Kind}
use Rattle.ssd_geo.specs.declared.tag.Tag.{Tag}
use Rattle.ssd_histories.specs.Lawful.{IsLawfulBy}
use Rattle.ssd_histories.specs.Reserve.{has_no_bad_kind, has_reserve}
use Rattle.ssd_histories.specs.Room.{is_worn}
use Rattle.ssd_histories.specs.Standing.{IsStart}
use Rattle.ssd_histories.specs.Start.{Start}

-- the reserve holds, and the channel isn't worn
pub record IsReserved (base : ChannelBase) (past : List Entry) : Type 0 where
  pub reserve : IsTrue (has_reserve base past)
  pub not_worn : is_worn base past ≡ false

-- where the reserve holds after a past, it holds after any newer entries too, if none of these is of a bad kind
abbrev pub ReserveStays : Type 0
ReserveStays =
    (ladder : List Entry → ℕ → LadderState) (start : Start) (newer past : List Entry) →
    IsStart start → IsLawfulBy ladder start.base (newer ++ past) → IsTrue (has_no_bad_kind newer) →
    IsTrue (has_reserve start.base past) → IsReserved start.base (newer ++ past)

-- so it does from a pick on
abbrev pub PicksAreReserved : Type 0
PicksAreReserved =
    (ladder : List Entry → ℕ → LadderState) (start : Start) (newer past : List Entry) (tag : Tag) (sb : ℕ) →
    IsStart start → IsLawfulBy ladder start.base (newer ++ record { tag = tag; kind = Kind.Pick sb } ∷ past) →
    IsTrue (has_no_bad_kind newer) → IsReserved start.base (newer ++ record { tag = tag; kind = Kind.Pick sb } ∷ past)
