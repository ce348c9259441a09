-- What holds of pasts, whatever they hold? Each law is the contract of a function without a body.
use Rattle.std.specs.Prelude.{ℕ, ◌≡◌, List, [], ◌∷◌, ◌++◌, length, slice_set, Option, Some, None}
use Rattle.ssd_histories.specs.History.{history_of, past_of}
use Rattle.ssd_geo.specs.Ladder.{LadderState}
use Rattle.ssd_histories.specs.Lawful.{IsLawfulBy}
use Rattle.ssd_histories.specs.PastRows.{row_change, rows_of}
use Rattle.ssd_geo.specs.declared.base.ChannelBase.{ChannelBase}
use Rattle.ssd_geo.specs.declared.entry.Entry.{Entry}
use Rattle.ssd_geo.specs.declared.row.Row.{Row}

-- a history and its past give each other, are equally long, and one more entry is the past's newest
pub record IsReversed (history past : List Entry) (entry : Entry) : Type 0 where
  pub history_back : history_of (past_of history) ≡ history
  pub past_back : past_of (history_of past) ≡ past
  pub as_long : length (past_of history) ≡ length history
  pub one_more : past_of (history ++ entry ∷ []) ≡ entry ∷ past_of history
  pub one_more_back : history_of (entry ∷ past) ≡ history_of past ++ entry ∷ []

abbrev pub HistoriesReverse : Type 0
HistoriesReverse = (history past : List Entry) (entry : Entry) → IsReversed history past entry

-- a lawful past stays lawful when its newest entries are taken off
abbrev pub LawfulBeforeLast : Type 0
LawfulBeforeLast =
    (ladder : List Entry → ℕ → LadderState) (base : ChannelBase) (newer past : List Entry) →
    IsLawfulBy ladder base (newer ++ past) → IsLawfulBy ladder base past

-- a page map after a change of one of its rows, if there is one
abbrev pub rows_after : Option (ℕ × Row) → List Row → List Row
rows_after None rows = rows
rows_after (Some change) rows = slice_set rows change.0 change.1

-- the page map after one more entry: at most the row that the entry changes is another
abbrev pub RowsAfterEntry : Type 0
RowsAfterEntry =
    (base : ChannelBase) (entry : Entry) (past : List Entry) →
    rows_of base (entry ∷ past) ≡ rows_after (row_change base.session past entry.tag entry.kind) (rows_of base past)
