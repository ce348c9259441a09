-- Is there room to empty a victim? The reserve holds where there is a free superblock, or a victim whose live pages fit
-- into the frontier. Each law is the contract of a function without a body.
use Rattle.std.specs.Prelude.{ℕ, ◌≡◌, nat_le, Bool, true, false, ◌||◌, not, List, ◌∷◌, Some, None}
use Rattle.std.specs.List.{list_all}
use Rattle.ssd_histories.specs.Blocks.{slots_left}
use Rattle.ssd_histories.specs.PastBlocks.{blocks_of, slots_in}
use Rattle.ssd_geo.specs.Ladder.{LadderState}
use Rattle.ssd_histories.specs.Lawful.{IsLawfulBy}
use Rattle.ssd_histories.specs.Room.{count_of_free, is_worn, live_of, victim_of}
use Rattle.ssd_geo.specs.declared.tag.Tag.{Tag}
use Rattle.ssd_geo.specs.declared.base.ChannelBase.{ChannelBase}
use Rattle.ssd_geo.specs.declared.entry.Entry.{Entry}
use Rattle.ssd_geo.specs.declared.kind.Kind.{Kind}

-- whether there is a victim whose live pages are at most the frontier's slots left
abbrev pub fits_into_frontier : ChannelBase → List Entry → Bool
fits_into_frontier base past = elim (victim_of base past) [
  | Some sb ↦ nat_le (live_of base past sb) (slots_left (slots_in base) (blocks_of base past))
  | None ↦ false
]

-- whether the reserve holds
abbrev pub has_reserve : ChannelBase → List Entry → Bool
has_reserve base past = nat_le 1 (count_of_free base past) || fits_into_frontier base past

-- whether an entry is of a bad kind: a program or an erase failed in it
abbrev pub is_bad_kind : Kind → Bool
is_bad_kind (Kind.BadWrite row slot die fault) = true
is_bad_kind (Kind.BadCopy at slot die fault) = true
is_bad_kind (Kind.BadErase sb die fault) = true
is_bad_kind _ = false

-- whether no entry of a past is
abbrev pub has_no_bad_kind : List Entry → Bool
has_no_bad_kind past = list_all (λ entry. not (is_bad_kind entry.kind)) past

-- under the reserve a channel isn't worn
abbrev pub ReserveIsNotWorn : Type 0
ReserveIsNotWorn = (base : ChannelBase) (past : List Entry) → has_reserve base past ≡ true → is_worn base past ≡ false

-- a lawful pick leaves the reserve, so a picked victim can be emptied as long as nothing fails
abbrev pub PicksLeaveReserve : Type 0
PicksLeaveReserve =
    (ladder : List Entry → ℕ → LadderState) (base : ChannelBase) (tag : Tag) (sb : ℕ) (past : List Entry) →
    IsLawfulBy ladder base (record { tag = tag; kind = Kind.Pick sb } ∷ past) → has_reserve base (record { tag = tag; kind = Kind.Pick sb } ∷ past) ≡ true
