-- What does an open look hold fast? Its slot isn't used again, so a copy can't bring back a page that was written or
-- trimmed since. Each law is the contract of a function without a body.
use Rattle.std.specs.Prelude.{ℕ, ◌≡◌, ◌≢◌, ◌<◌, ◌==◌, nat_lt, Bool, false, ◌&&◌, ◌||◌, IsTrue, List, [], ◌∷◌, length, All, slice_index_or, IsSomeAnd, ⊤}
use Rattle.ssd_histories.specs.History.{open_look, open_looks}
use Rattle.ssd_geo.specs.Ladder.{LadderState}
use Rattle.ssd_histories.specs.Lawful.{IsLawfulBy}
use Rattle.ssd_histories.specs.PastBlocks.{used_of}
use Rattle.ssd_histories.specs.PastRows.{row_of}
use Rattle.ssd_geo.specs.declared.base.ChannelBase.{ChannelBase}
use Rattle.ssd_geo.specs.declared.entry.Entry.{Entry}
use Rattle.ssd_geo.specs.declared.kind.Kind.{Kind}
use Rattle.ssd_geo.specs.declared.look.Look.{Look}
use Rattle.ssd_geo.specs.declared.row.Row.{Row}
use Rattle.ssd_geo.specs.declared.slot.Slot.{Slot}
use Rattle.ssd_geo.specs.declared.tag.Tag.{Tag}

-- a row that names a slot names one that is used
abbrev pub NamesUsed : ChannelBase → List Entry → Row → Type 0
NamesUsed base past (Row.Page slot serial) = slot.index < used_of base past slot.sb
NamesUsed base past Row.Empty = ⊤
NamesUsed base past Row.Lost = ⊤

-- the rows of a base name used slots
abbrev pub RowsNameUsed : ChannelBase → Type 0
RowsNameUsed base = (row : ℕ) → NamesUsed base [] (slice_index_or base.rows row Row.Empty)

-- whether an entry is a write or a trim of a row
abbrev pub is_rewrite : ℕ → Kind → Bool
is_rewrite row (Kind.Write named slot) = named == row
is_rewrite row (Kind.Trim named) = named == row
is_rewrite row _ = false

-- whether a row was written or trimmed after a position
abbrev pub is_rewritten : ℕ → ℕ → List Entry → Bool
is_rewritten row at [] = false
is_rewritten row at (entry ∷ past) = is_rewrite row entry.kind && nat_lt at (length past) || is_rewritten row at past

-- the slot of an open look is used
abbrev pub StandsInUsed : ChannelBase → List Entry → Tag × Look → Type 0
StandsInUsed base past pin = pin.1.slot.index < used_of base past pin.1.slot.sb

-- once the row of an open look was written or trimmed, it doesn't name the look's slot
abbrev pub NamesOther : ChannelBase → List Entry → Tag × Look → Type 0
NamesOther base past pin =
    IsTrue (is_rewritten pin.1.row pin.1.at past) → (serial : ℕ) → row_of base past pin.1.row ≢ Row.Page pin.1.slot serial

-- each row names a used slot in a lawful past
abbrev pub LawfulRowsNameUsed : Type 0
LawfulRowsNameUsed =
    (ladder : List Entry → ℕ → LadderState) (base : ChannelBase) (past : List Entry) →
    RowsNameUsed base → IsLawfulBy ladder base past → (row : ℕ) → row < base.shape.rows → NamesUsed base past (row_of base past row)

-- so does each open look, since its superblock isn't erased
abbrev pub OpenLooksStand : Type 0
OpenLooksStand =
    (ladder : List Entry → ℕ → LadderState) (base : ChannelBase) (past : List Entry) →
    RowsNameUsed base → IsLawfulBy ladder base past → All (StandsInUsed base past) (open_looks past)

-- the rows of open looks name other slots, once they were written or trimmed
abbrev pub RewrittenRowsDiffer : Type 0
RewrittenRowsDiffer =
    (ladder : List Entry → ℕ → LadderState) (base : ChannelBase) (past : List Entry) →
    RowsNameUsed base → IsLawfulBy ladder base past → All (NamesOther base past) (open_looks past)

-- a lawful copy is of a row that wasn't written or trimmed since its look
abbrev pub CopiesAreFresh : Type 0
CopiesAreFresh =
    (ladder : List Entry → ℕ → LadderState) (base : ChannelBase) (past : List Entry) (tag : Tag) (at : ℕ) (slot : Slot) →
    RowsNameUsed base → IsLawfulBy ladder base (record { tag = tag; kind = Kind.Move at slot } ∷ past)
    → IsSomeAnd (open_look past tag at) (λ look. is_rewritten look.row look.at past ≡ false)

-- a lawful erase is of a superblock in which no open look stands, whether it fails or not
abbrev pub is_erase_or_bad_erase_of : ℕ → Kind → Bool
is_erase_or_bad_erase_of sb (Kind.Erase named) = named == sb
is_erase_or_bad_erase_of sb (Kind.BadErase named die fault) = named == sb
is_erase_or_bad_erase_of sb _ = false

abbrev pub ErasesSpareLooks : Type 0
ErasesSpareLooks =
    (ladder : List Entry → ℕ → LadderState) (base : ChannelBase) (entry : Entry) (past : List Entry) →
    IsLawfulBy ladder base (entry ∷ past) → All (λ pin. is_erase_or_bad_erase_of pin.1.slot.sb entry.kind ≡ false) (open_looks past)
