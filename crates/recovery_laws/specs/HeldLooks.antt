-- What else does an open look hold fast? The stripes of its superblock that were closed stay so; and a copy whose look
-- stands before a write or a trim changes nothing of that row. Each law is the contract of a function without a body.
use Rattle.std.specs.Prelude.{ℕ, ◌≡◌, IsTrue, List, ◌∷◌, All}
use Rattle.ssd_geo.specs.Ladder.{LadderState}
use Rattle.ssd_geo.specs.Stripe.{is_closed}
use Rattle.ssd_geo.specs.declared.base.ChannelBase.{ChannelBase}
use Rattle.ssd_geo.specs.declared.entry.Entry.{Entry}
use Rattle.ssd_geo.specs.declared.kind.Kind.{Kind}
use Rattle.ssd_geo.specs.declared.look.Look.{Look}
use Rattle.ssd_geo.specs.declared.slot.Slot.{Slot}
use Rattle.ssd_geo.specs.declared.tag.Tag.{Tag}
use Rattle.ssd_histories.specs.History.{open_looks}
use Rattle.ssd_histories.specs.Lawful.{IsLawfulBy}
use Rattle.ssd_histories.specs.LookLaws.{RowsNameUsed, is_rewritten}
use Rattle.ssd_histories.specs.PastBlocks.{used_of}
use Rattle.ssd_histories.specs.PastRows.{row_of}
use Rattle.ssd_histories.specs.PinnedPages.{HasDuePages}
use Rattle.ssd_histories.specs.PlainMap.{past_at}
use Rattle.ssd_histories.specs.Start.{Start}

-- each stripe of an open look's superblock that was closed at the look is closed
abbrev pub KeepsStripes : ChannelBase → List Entry → Tag × Look → Type 0
KeepsStripes base past pin =
    (stripe : ℕ) → IsTrue (is_closed base.shape.dies (used_of base (past_at past pin.1.at) pin.1.slot.sb) stripe)
    → IsTrue (is_closed base.shape.dies (used_of base past pin.1.slot.sb) stripe)

abbrev pub ClosedStripesStay : Type 0
ClosedStripesStay =
    (ladder : List Entry → ℕ → LadderState) (start : Start) (past : List Entry) →
    HasDuePages start → IsLawfulBy ladder start.base past → All (KeepsStripes start.base past) (open_looks past)

-- a copy whose look stands before a write or a trim of a row leaves what the row holds
abbrev pub StaleCopiesChangeNothing : Type 0
StaleCopiesChangeNothing =
    (ladder : List Entry → ℕ → LadderState) (base : ChannelBase) (past : List Entry) (tag : Tag) (at : ℕ) (slot : Slot)
    (row : ℕ) →
    RowsNameUsed base → IsLawfulBy ladder base (record { tag = tag; kind = Kind.Move at slot } ∷ past) →
    IsTrue (is_rewritten row at past) →
    row_of base (record { tag = tag; kind = Kind.Move at slot } ∷ past) row ≡ row_of base past row
