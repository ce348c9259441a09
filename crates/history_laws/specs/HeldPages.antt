-- What does an open look hold fast? From the look to its leave, every place of its superblock that was programmed at the
-- look keeps its word, and the stripe of its page is closed where it was closed then. The law is the contract of a
-- function without a body.
use Rattle.std.specs.Prelude.{ℕ, ◌≡◌, IsTrue, List, All, IsSome}
use Rattle.ssd_geo.specs.Coding.{Coding}
use Rattle.ssd_geo.specs.Ladder.{LadderState}
use Rattle.ssd_geo.specs.declared.entry.Entry.{Entry}
use Rattle.ssd_geo.specs.declared.look.Look.{Look}
use Rattle.ssd_geo.specs.declared.place.Place.{Place}
use Rattle.ssd_geo.specs.declared.tag.Tag.{Tag}
use Rattle.ssd_histories.specs.History.{open_looks}
use Rattle.ssd_histories.specs.Lawful.{IsLawfulBy}
use Rattle.ssd_histories.specs.PastPages.{page_of}
use Rattle.ssd_histories.specs.PinnedPages.{KeepsWord}
use Rattle.ssd_histories.specs.PlainMap.{past_at}
use Rattle.ssd_histories.specs.Room.{is_stripe_closed}
use Rattle.ssd_histories.specs.Standing.{IsStart}
use Rattle.ssd_histories.specs.Start.{Start}

-- since an open look, the places of its superblock kept their words, and the stripe that it said to be closed is closed
pub record HoldsFast (coding : Coding) (start : Start) (contents : List (Tag × List ℕ)) (past : List Entry) (pin : Tag × Look)
    : Type 0 where
  pub words :
      (place : Place) → place.sb ≡ pin.1.slot.sb → IsSome (page_of coding start contents (past_at past pin.1.at) place)
      → KeepsWord (page_of coding start contents (past_at past pin.1.at) place) (page_of coding start contents past place)
  pub stripe : IsTrue pin.1.closed → IsTrue (is_stripe_closed start.base past pin.1.slot)

-- each open look of a lawful past does
abbrev pub OpenLooksHoldFast : Type 0
OpenLooksHoldFast =
    (ladder : List Entry → ℕ → LadderState) (coding : Coding) (start : Start) (contents : List (Tag × List ℕ))
    (past : List Entry) →
    IsStart start → IsLawfulBy ladder start.base past → All (HoldsFast coding start contents past) (open_looks past)
