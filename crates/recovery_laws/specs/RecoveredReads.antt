-- Does a read give the data of the last write? In every lawful past, with copies, erases and failed programs: where the
-- ladder of a look found the very word that stood in its page, and so did the ladders of all copies by which the page
-- came to its slot since the row's latest write, that word is the one of that write. Each law is the contract of a
-- function without a body.
use Rattle.std.specs.Prelude.{ℕ, ◌≡◌, ◌≢◌, ◌<◌, ◌↔◌, List, length, All, Some, ⊤}
use Rattle.ssd_geo.specs.Coding.{Coding, coding_of, data_in}
use Rattle.ssd_geo.specs.Ladder.{recovered}
use Rattle.ssd_geo.specs.declared.base.ChannelBase.{ChannelBase}
use Rattle.ssd_geo.specs.declared.entry.Entry.{Entry}
use Rattle.ssd_geo.specs.declared.kind.Kind.{Kind}
use Rattle.ssd_geo.specs.declared.look.Look.{Look}
use Rattle.ssd_geo.specs.declared.row.Row.{Row}
use Rattle.ssd_geo.specs.declared.tag.Tag.{Tag}
use Rattle.ssd_histories.specs.History.{look_of}
use Rattle.ssd_histories.specs.Lawful.{IsLawful, IsLawfulBy, IsLawfulLeave}
use Rattle.ssd_histories.specs.LookLaws.{RowsNameUsed}
use Rattle.ssd_histories.specs.PastPages.{ladder_of}
use Rattle.ssd_histories.specs.PastRows.{row_of}
use Rattle.ssd_histories.specs.PinnedPages.{HasDuePages}
use Rattle.ssd_histories.specs.PlainMap.{AreCopiesRecovered, IsRecoveredPage, bytes, nothing, past_at, plain_of}
use Rattle.ssd_histories.specs.Standing.{IsStart}
use Rattle.ssd_histories.specs.Start.{Start, data_of}
use Rattle.ssd_histories.specs.LastWrites.{IsData}

-- what a channel begins with has the pages that are due, and its rows name used slots
pub record HasNamedPages (start : Start) : Type 0 where
  pub has_due_pages : HasDuePages start
  pub rows_name_used : RowsNameUsed start.base

-- each start has this
abbrev pub StartsHaveNamedPages : Type 0
StartsHaveNamedPages = (start : Start) → IsStart start → HasNamedPages start

-- where an entry writes, its call's data are so many bytes
abbrev pub WritesData : ℕ → List (Tag × List ℕ) → Tag → Kind → Type 0
WritesData count contents tag (Kind.Write row slot) = IsData count (data_of contents tag)
WritesData count contents tag _ = ⊤

-- a lawful past of a channel whose writes have data
pub record IsWrittenPast (start : Start) (contents : List (Tag × List ℕ)) (past : List Entry) : Type 0 where
  pub has_named_pages : HasNamedPages start
  pub is_lawful : IsLawful start contents past
  pub write_data : All (λ entry. WritesData start.base.shape.bytes contents entry.tag entry.kind) past

-- a word that a look's ladder found is that of some data, and has them
pub record IsWordOf (base : ChannelBase) (look : Look) (data_bytes word : List ℕ) : Type 0 where
  pub is_encoded : word ≡ (coding_of base).encoded look.serial look.row data_bytes
  pub has_data : data_in base.shape look.serial look.row word ≡ Some data_bytes

-- a look of the past, whether it is still open or was left, gives the data that its row held at the look by its writes
-- and trims
abbrev pub RecoveredReadsArePlain : Type 0
RecoveredReadsArePlain =
    (start : Start) (contents : List (Tag × List ℕ)) (past : List Entry) (look : Look) (rung : ℕ) (word data_bytes : List ℕ) →
    IsWrittenPast start contents past → look_of past look.at ≡ Some look →
    AreCopiesRecovered (coding_of start.base) start contents past look →
    ladder_of (coding_of start.base) start contents past look.at ≡ recovered rung word →
    plain_of start.base contents (past_at past look.at) look.row ≡ bytes data_bytes →
    IsWordOf start.base look data_bytes word

-- once the ladder of a look has an answer, or a sense of the look failed, no later entry changes whether its page is recovered
abbrev pub RecoveredPagesStay : Type 0
RecoveredPagesStay =
    (coding : Coding) (start : Start) (contents : List (Tag × List ℕ)) (past : List Entry) (position at : ℕ) →
    IsLawfulBy (ladder_of coding start contents) start.base past → at < length (past_at past position) →
    IsLawfulLeave (ladder_of coding start contents (past_at past position) at) (past_at past position) at →
    IsRecoveredPage coding start contents past at ↔ IsRecoveredPage coding start contents (past_at past position) at

-- a row is empty just where by its writes and trims it holds nothing
abbrev pub EmptyRowsWereTrimmed : Type 0
EmptyRowsWereTrimmed =
    (start : Start) (contents : List (Tag × List ℕ)) (past : List Entry) (row : ℕ) →
    IsLawful start contents past →
    (row_of start.base past row ≡ Row.Empty) ↔ (plain_of start.base contents past row ≡ nothing)

-- so no look of such a row found a page
abbrev pub TrimmedRowsHaveNoPage : Type 0
TrimmedRowsHaveNoPage =
    (start : Start) (contents : List (Tag × List ℕ)) (past : List Entry) (look : Look) →
    IsLawful start contents past → look_of past look.at ≡ Some look →
    plain_of start.base contents (past_at past look.at) look.row ≢ nothing
