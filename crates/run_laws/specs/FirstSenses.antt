-- When is a page read from the first sense of its look? Where the fresh cells of each word give it back at the first read level, and
-- no block was aged since, the ladder asks for that sense alone, and the read gives the data of the row's latest write.
use Rattle.std.specs.Prelude.{ℕ, ◌≡◌, ◌≢◌, ◌<◌, Bool, true, List, [], ◌∷◌, length, option_map, slice_get, Some, All, ℤ, ⊤}
use Rattle.ssd_geo.specs.Cells.{fresh_levels, sensed}
use Rattle.ssd_geo.specs.Coding.{coding_of}
use Rattle.ssd_geo.specs.Ladder.{all_kept, asks, kept_with, none_kept, recovered}
use Rattle.ssd_histories.specs.PastPages.{ladder_of, sense_of}
use Rattle.ssd_histories.specs.PastRows.{row_of}
use Rattle.ssd_histories.specs.PlainMap.{bytes, plain_of}
use Rattle.ssd_histories.specs.Replies.{bytes_of_word}
use Rattle.ssd_histories.specs.SerialCalls.{entry_of}
use Rattle.ssd_histories.specs.Start.{Start}
use Rattle.ssd_geo.specs.Stripe.{place_of_slot}
use Rattle.ssd_geo.specs.declared.base.ChannelBase.{ChannelBase}
use Rattle.ssd_geo.specs.declared.entry.Entry.{Entry}
use Rattle.ssd_geo.specs.declared.kind.Kind.{Kind}
use Rattle.ssd_geo.specs.declared.row.Row.{Row}
use Rattle.ssd_geo.specs.declared.slot.Slot.{Slot}
use Rattle.ssd_geo.specs.declared.tag.Tag.{Tag}
use Rattle.ssd_histories.specs.ServedCalls.{after_look}
use Rattle.ssd_histories.specs.LastWrites.{IsData}
use Rattle.recovery_laws.specs.RecoveredReads.{IsWrittenPast}

-- what the fresh cells of a page's word give at the first read level: the word, whose codewords are all found at once, and
-- which has the page's head and data
pub record WordIsRead (base : ChannelBase) (level : ℤ) (serial row : ℕ) (data_bytes : List ℕ) : Type 0 where
  pub sense_is :
      (page erases : ℕ) → sensed level (fresh_levels base.law page erases ((coding_of base).encoded serial row data_bytes))
      ≡ (coding_of base).encoded serial row data_bytes
  pub is_found :
      option_map (coding_of base).joined
      (all_kept (kept_with ((coding_of base).hard ((coding_of base).encoded serial row data_bytes)) 0 (none_kept (coding_of base))))
      ≡ Some ((coding_of base).encoded serial row data_bytes)
  pub fails_none : (coding_of base).failed ((coding_of base).encoded serial row data_bytes) ≡ 0
  pub has_head : (coding_of base).has_head serial row ((coding_of base).encoded serial row data_bytes) ≡ true
  pub has_data : bytes_of_word base.shape.bytes ((coding_of base).encoded serial row data_bytes) ≡ data_bytes

-- the words of a channel are read from their first sense
pub record ReadsBack (base : ChannelBase) : Type 0 where
  pub level : ℤ
  pub is_first : slice_get base.read_levels 0 ≡ Some level
  pub words : (serial row : ℕ) (data_bytes : List ℕ) → IsData base.shape.bytes data_bytes → WordIsRead base level serial row data_bytes

-- an entry ages no block
abbrev pub IsNoAgeing : Kind → Type 0
IsNoAgeing (Kind.Age die sb amount) = ⊥
IsNoAgeing _ = ⊤

-- a lawful past whose writes have data and whose words are read from their first sense, where no block was aged
pub record IsUnagedPast (start : Start) (contents : List (Tag × List ℕ)) (past : List Entry) : Type 0 where
  pub is_written : IsWrittenPast start contents past
  pub reads_back : ReadsBack start.base
  pub no_ageing : All (λ entry. IsNoAgeing entry.kind) past

-- the past after a look that found a page and its sense of the page at a level
abbrev pub after_sense : ℕ → Tag → ℕ → Slot → ℕ → Bool → ℤ → List Entry → List Entry
after_sense dies tag row slot serial closed level past =
    entry_of tag (Kind.Sense (length past) (place_of_slot dies slot) level) ∷ after_look tag row slot serial closed past

-- what this sense gives
abbrev pub first_sense : Start → List (Tag × List ℕ) → Tag → ℕ → Slot → ℕ → Bool → ℤ → List Entry → List ℕ
first_sense start contents tag row slot serial closed level past =
    sense_of (coding_of start.base) start contents (after_look tag row slot serial closed past)
    (place_of_slot start.base.shape.dies slot) level

-- a read that finds a page there: its ladder asks for a sense of the page at the first read level; that gives the page's word,
-- with which the ladder recovers the page; and its data are what the row holds by its writes and trims
pub record IsReadAtOnce (start : Start) (contents : List (Tag × List ℕ)) (tag : Tag) (row : ℕ) (slot : Slot) (serial : ℕ) (closed : Bool) (past : List Entry) : Type 0 where
  pub level : ℤ
  pub is_first : slice_get start.base.read_levels 0 ≡ Some level
  pub asks_first :
      ladder_of (coding_of start.base) start contents (after_look tag row slot serial closed past) (length past)
      ≡ asks (place_of_slot start.base.shape.dies slot) level
  pub is_recovered :
      ladder_of (coding_of start.base) start contents (after_sense start.base.shape.dies tag row slot serial closed level past) (length past)
      ≡ recovered 0 (first_sense start contents tag row slot serial closed level past)
  pub fails_none : (coding_of start.base).failed (first_sense start contents tag row slot serial closed level past) ≡ 0
  pub has_head : (coding_of start.base).has_head serial row (first_sense start contents tag row slot serial closed level past) ≡ true
  pub is_plain :
      plain_of start.base contents past row
      ≡ bytes (bytes_of_word start.base.shape.bytes (first_sense start contents tag row slot serial closed level past))

-- each page that a row names is read at once, where the row has data by its writes and trims
abbrev pub PagesAreReadAtOnce : Type 0
PagesAreReadAtOnce =
    (start : Start) (contents : List (Tag × List ℕ)) (past : List Entry) (tag : Tag) (row : ℕ) (slot : Slot) (serial : ℕ)
    (closed : Bool) (data_bytes : List ℕ) →
    IsUnagedPast start contents past → row < start.base.shape.rows → row_of start.base past row ≡ Row.Page slot serial →
    plain_of start.base contents past row ≡ bytes data_bytes →
    IsReadAtOnce start contents tag row slot serial closed past

-- an entry condemns no page
abbrev pub IsNoCondemn : Kind → Type 0
IsNoCondemn (Kind.Condemn at) = ⊥
IsNoCondemn _ = ⊤

-- a row is lost only where it began so or its page was condemned
abbrev pub LostRowsWereCondemned : Type 0
LostRowsWereCondemned =
    (base : ChannelBase) (past : List Entry) (row : ℕ) →
    All (λ entry. IsNoCondemn entry.kind) past → row_of base [] row ≢ Row.Lost → row_of base past row ≢ Row.Lost
