-- Can a copy undo a write? After a write or a trim of a row, no copy whose look stands before it changes that row, also
-- where the row was written again: the slot of an open look isn't used again. The law is the contract of a function
-- without a body.
use Rattle.std.specs.Prelude.{ℕ, ◌≡◌, IsTrue, List, ◌∷◌}
use Rattle.ssd_geo.specs.Ladder.{LadderState}
use Rattle.ssd_geo.specs.declared.entry.Entry.{Entry}
use Rattle.ssd_geo.specs.declared.kind.Kind.{Kind}
use Rattle.ssd_geo.specs.declared.slot.Slot.{Slot}
use Rattle.ssd_geo.specs.declared.tag.Tag.{Tag}
use Rattle.ssd_histories.specs.Lawful.{IsLawfulBy}
use Rattle.ssd_histories.specs.LookLaws.{is_rewritten}
use Rattle.ssd_histories.specs.PastRows.{row_of}
use Rattle.ssd_histories.specs.Standing.{IsStart}
use Rattle.ssd_histories.specs.Start.{Start}

-- a copy leaves each row that was written or trimmed after the position of the copy's look
abbrev pub StaleCopiesLeaveRows : Type 0
StaleCopiesLeaveRows =
    (ladder : List Entry → ℕ → LadderState) (start : Start) (past : List Entry) (tag : Tag) (at : ℕ) (slot : Slot) (row : ℕ) →
    IsStart start → IsLawfulBy ladder start.base (record { tag = tag; kind = Kind.Move at slot } ∷ past) →
    IsTrue (is_rewritten row at past) →
    row_of start.base (record { tag = tag; kind = Kind.Move at slot } ∷ past) row ≡ row_of start.base past row
