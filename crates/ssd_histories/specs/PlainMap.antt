-- Which bytes should a read give, and when is a page told to be recovered? The plain map goes by writes and trims
-- alone: a row holds the data of its latest write, and nothing after a trim. A page is recovered where the ladder found
-- the very word that was programmed; a wrong codeword with the right head isn't excluded, so this is said and
-- not claimed.
use Rattle.std.specs.Prelude.{ℕ, ◌≡◌, ◌-◌, ◌==◌, Bool, true, false, List, [], ◌∷◌, drop, length, slice_index_or, Option, Some, None, All, IsSomeAnd}
use Rattle.ssd_geo.specs.Coding.{Coding}
use Rattle.ssd_histories.specs.History.{look_of}
use Rattle.ssd_geo.specs.Ladder.{LadderState, asks, recovered, uncorrectable}
use Rattle.ssd_histories.specs.PastPages.{ladder_of, page_of, word_of_page}
use Rattle.ssd_histories.specs.Start.{Start, data_of}
use Rattle.ssd_geo.specs.Stripe.{place_of_slot}
use Rattle.ssd_geo.specs.declared.base.ChannelBase.{ChannelBase}
use Rattle.ssd_geo.specs.declared.entry.Entry.{Entry}
use Rattle.ssd_geo.specs.declared.kind.Kind.{Kind}
use Rattle.ssd_geo.specs.declared.look.Look.{Look}
use Rattle.ssd_geo.specs.declared.row.Row.{Row}
use Rattle.ssd_geo.specs.declared.tag.Tag.{Tag}

-- what a row holds by its writes and trims: nothing, these bytes, or what the image had, which isn't told
pub data PlainRow : Type 0 where
  nothing : PlainRow
  bytes : List ℕ → PlainRow
  untold : PlainRow

-- what a row of the image holds
abbrev pub plain_in_image : Row → PlainRow
plain_in_image Row.Empty = nothing
plain_in_image Row.Lost = untold
plain_in_image (Row.Page slot serial) = untold

-- what a row holds after an entry, from what it held before
abbrev pub plain_after : List (Tag × List ℕ) → Tag → Kind → ℕ → PlainRow → PlainRow
plain_after contents tag (Kind.Write named slot) row before =
    elim (named == row) [ true ↦ bytes (data_of contents tag) | false ↦ before ]
plain_after contents tag (Kind.Trim named) row before = elim (named == row) [ true ↦ nothing | false ↦ before ]
plain_after contents tag _ row before = before

-- what a row holds
abbrev pub plain_of : ChannelBase → List (Tag × List ℕ) → List Entry → ℕ → PlainRow
plain_of base contents [] row = plain_in_image (slice_index_or base.rows row Row.Empty)
plain_of base contents (entry ∷ past) row =
    plain_after contents entry.tag entry.kind row (plain_of base contents past row)

-- the past of a position: the entries before it
abbrev pub past_at : List Entry → ℕ → List Entry
past_at past at = drop (length past - at) past

-- the word that stood at a look's place when the look was made
abbrev pub word_looked_at : Coding → Start → List (Tag × List ℕ) → List Entry → Look → Option (List ℕ)
word_looked_at coding start contents past look =
    word_of_page (page_of coding start contents (past_at past look.at) (place_of_slot start.base.shape.dies look.slot))

-- a ladder recovered this word
abbrev pub HasRecovered : LadderState → Option (List ℕ) → Type 0
HasRecovered (asks place level) word = ⊥
HasRecovered (recovered rung found) word = word ≡ Some found
HasRecovered uncorrectable word = ⊥

-- the page of the look that began at a position is recovered: its ladder found the word that stood there
abbrev pub IsRecoveredPage : Coding → Start → List (Tag × List ℕ) → List Entry → ℕ → Type 0
IsRecoveredPage coding start contents past at =
    IsSomeAnd (look_of past at) (λ look. HasRecovered (ladder_of coding start contents past at) (word_looked_at coding start contents past look))

-- whether a look, if there is one, is of a row
abbrev pub is_look_of_row : ℕ → Option Look → Bool
is_look_of_row row None = false
is_look_of_row row (Some look) = look.row == row

-- the looks by which a row's page was copied after an entry, from those before: a write begins anew
abbrev pub copies_after : List Entry → Kind → ℕ → List ℕ → List ℕ
copies_after past (Kind.Write named slot) row copies = elim (named == row) [ true ↦ [] | false ↦ copies ]
copies_after past (Kind.Move at slot) row copies =
    elim (is_look_of_row row (look_of past at)) [ true ↦ at ∷ copies | false ↦ copies ]
copies_after past _ row copies = copies

-- the positions of the looks by which a row's page was copied since the row's latest write
abbrev pub copies_of : List Entry → ℕ → List ℕ
copies_of [] row = []
copies_of (entry ∷ past) row = copies_after past entry.kind row (copies_of past row)

-- the page of a look and all copies by which it came to its slot are recovered
pub record AreCopiesRecovered (coding : Coding) (start : Start) (contents : List (Tag × List ℕ)) (past : List Entry) (look : Look) : Type 0 where
  pub own : IsRecoveredPage coding start contents past look.at
  pub copies : All (IsRecoveredPage coding start contents past) (copies_of (past_at past look.at) look.row)
