-- Is there always a way to empty a victim? From every lawful past with the reserve one call can do it, where no die answers
-- FAIL and none of their calls fails: it looks at a live page of the victim, senses until the ladder has its answer, copies
-- the page or condemns it, leaves the look, and goes on with the next. Then, if no other look is open in the victim, it can be
-- erased. Each law is the contract of a function without a body.
use Rattle.std.specs.Prelude.{ℕ, ◌≡◌, false, IsTrue, List, ◌∷◌, ◌++◌, All, Some}
use Rattle.ssd_geo.specs.declared.base.ChannelBase.{ChannelBase}
use Rattle.ssd_geo.specs.declared.entry.Entry.{Entry}
use Rattle.ssd_geo.specs.declared.kind.Kind.{Kind}
use Rattle.ssd_geo.specs.declared.tag.Tag.{Tag}
use Rattle.ssd_histories.specs.History.{open_looks}
use Rattle.ssd_histories.specs.Lawful.{IsLawful}
use Rattle.ssd_histories.specs.PastBlocks.{is_bad_superblock}
use Rattle.ssd_histories.specs.Reserve.{has_no_bad_kind, has_reserve}
use Rattle.ssd_histories.specs.Room.{live_of, pins_of, victim_of}
use Rattle.ssd_histories.specs.Standing.{IsStart}
use Rattle.ssd_histories.specs.Start.{Start}
use Rattle.ssd_histories.specs.WeakDies.{dies_in, is_none_weak, is_weak}

-- no die is weak in a superblock that isn't bad, at the erases that it has
abbrev pub NoneIsWeak : ChannelBase → List Entry → Type 0
NoneIsWeak base past = (sb die : ℕ) → is_bad_superblock base past sb ≡ false → is_weak base past sb die ≡ false

-- newer entries of one call empty a victim: they are lawful and of no bad kind, the superblock is still the victim and has no
-- live page, and the looks that are open are those that were
pub record EmptiesVictim (start : Start) (contents : List (Tag × List ℕ)) (newer past : List Entry) (tag : Tag) (sb : ℕ)
    : Type 0 where
  pub is_lawful : IsLawful start contents (newer ++ past)
  pub of_call : All (λ entry. entry.tag ≡ tag) newer
  pub none_bad : IsTrue (has_no_bad_kind newer)
  pub is_victim : victim_of start.base (newer ++ past) ≡ Some sb
  pub none_live : live_of start.base (newer ++ past) sb ≡ 0
  pub same_looks : open_looks (newer ++ past) ≡ open_looks past

-- under the reserve there are such entries, for each call
abbrev pub VictimsCanBeEmptied : Type 0
VictimsCanBeEmptied =
    (start : Start) (contents : List (Tag × List ℕ)) (past : List Entry) (tag : Tag) (sb : ℕ) →
    IsStart start → IsLawful start contents past → NoneIsWeak start.base past →
    IsTrue (has_reserve start.base past) → victim_of start.base past ≡ Some sb →
    (newer : List Entry) × EmptiesVictim start contents newer past tag sb

-- so there are from the pick of a superblock on, as long as it is the victim and no entry is of a bad kind
abbrev pub PickedVictimsCanBeEmptied : Type 0
PickedVictimsCanBeEmptied =
    (start : Start) (contents : List (Tag × List ℕ)) (since past : List Entry) (by tag : Tag) (sb : ℕ) →
    IsStart start → IsLawful start contents (since ++ record { tag = by; kind = Kind.Pick sb } ∷ past) →
    NoneIsWeak start.base (since ++ record { tag = by; kind = Kind.Pick sb } ∷ past) → IsTrue (has_no_bad_kind since) →
    victim_of start.base (since ++ record { tag = by; kind = Kind.Pick sb } ∷ past) ≡ Some sb →
    (newer : List Entry) × EmptiesVictim start contents newer (since ++ record { tag = by; kind = Kind.Pick sb } ∷ past) tag sb

-- an emptied victim in which no other look is open may be erased, where no die is weak in it
abbrev pub EmptiedVictimsMayBeErased : Type 0
EmptiedVictimsMayBeErased =
    (start : Start) (contents : List (Tag × List ℕ)) (newer past : List Entry) (tag : Tag) (sb : ℕ) →
    EmptiesVictim start contents newer past tag sb → pins_of past sb ≡ 0 →
    IsTrue (is_none_weak start.base (newer ++ past) sb (dies_in start.base)) →
    IsLawful start contents (record { tag = tag; kind = Kind.Erase sb } ∷ (newer ++ past))
