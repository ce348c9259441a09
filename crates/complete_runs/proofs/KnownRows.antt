-- On a channel that began blank, each row that names a page holds data by its writes, each look of a page knows the word of
-- these, and no page is condemned.
use Rattle.std.proofs.Common.{◌≡◌, ◌≢◌, ℕ, zero, suc, ◌==◌, ◌-◌, Bool, true, false, List, [], ◌∷◌, length, replicate, refl, sym, subst, ◌∙◌, Some, All}
use Rattle.std.specs.Prelude.{slice_index_or, ⊤}
use Rattle.std.proofs.lemmas.Bool.{false≢true}
use Rattle.std.proofs.lemmas.List.Elements.{All-cons, All-nil}
use Rattle.ssd_geo.specs.Coding.{coding_of}
use Rattle.ssd_geo.specs.Ladder.{LadderState, asks, is_uncorrectable, recovered, uncorrectable}
use Rattle.ssd_geo.specs.declared.base.ChannelBase.{ChannelBase}
use Rattle.ssd_geo.specs.declared.entry.Entry.{Entry}
use Rattle.ssd_geo.specs.declared.kind.Kind.{Kind}
use Rattle.ssd_geo.specs.declared.look.Look.{Look}
use Rattle.ssd_geo.specs.declared.row.Row.{Row}
use Rattle.ssd_geo.specs.declared.slot.Slot.{Slot}
use Rattle.ssd_geo.specs.declared.tag.Tag.{Tag}
use Rattle.ssd_histories.specs.History.{look_of}
use Rattle.ssd_histories.specs.LastWrites.{IsData}
use Rattle.ssd_histories.specs.Lawful.{IsLawful, IsLawfulCondemn, IsLawfulKind}
use Rattle.ssd_histories.specs.PastPages.{ladder_of}
use Rattle.ssd_histories.specs.PastRows.{row_of}
use Rattle.ssd_histories.specs.PlainMap.{PlainRow, bytes, nothing, past_at, plain_in_image, plain_of, untold}
use Rattle.ssd_histories.specs.Replies.{bytes_of_word}
use Rattle.ssd_histories.specs.Start.{Start, data_of}
use Rattle.recovery_laws.proofs.Pasts.{StepLook, step_look}
use Rattle.recovery_laws.proofs.RecoveredReads.{HasFound, empty_rows_were_trimmed, looks_found, plain_is_data}
use Rattle.run_laws.specs.FirstSenses.{IsNoCondemn, IsUnagedPast}
use Rattle.run_laws.proofs.KeptRows.{lost_rows_were_condemned}
use Rattle.complete_runs.proofs.FirstWords.{KnowsFirst, ladders_know, unaged_at}

-- what a row holds is told
abbrev IsTold : PlainRow → Type 0
IsTold nothing = ⊤
IsTold (bytes data_bytes) = ⊤
IsTold untold = ⊥

-- the rows of a base are empty
abbrev pub AreEmpty : ChannelBase → Type 0
AreEmpty base = (row : ℕ) → slice_index_or base.rows row Row.Empty ≡ Row.Empty

pub empty_row : (rows row : ℕ) → slice_index_or (replicate rows Row.Empty) row Row.Empty ≡ Row.Empty
empty_row zero row = refl
empty_row (suc rows) zero = refl
empty_row (suc rows) (suc row) = empty_row rows row

told_after : (named : Bool) (after before : PlainRow) → IsTold after → IsTold before → IsTold (elim named [ true ↦ after | false ↦ before ])
told_after true after before own older = own
told_after false after before own older = older

module _ (base : ChannelBase) (contents : List (Tag × List ℕ)) (empty : AreEmpty base) where
  told_step : (past : List Entry) (tag : Tag) (kind : Kind) (row : ℕ) → IsTold (plain_of base contents past row) →
      IsTold (plain_of base contents (record { tag = tag; kind = kind } ∷ past) row)
  told_step past tag (Kind.Write named slot) row older =
      told_after (named == row) (bytes (data_of contents tag)) (plain_of base contents past row) tt older
  told_step past tag (Kind.Trim named) row older = told_after (named == row) nothing (plain_of base contents past row) tt older
  told_step past tag kind row older = older

  is_told : (past : List Entry) (row : ℕ) → IsTold (plain_of base contents past row)
  is_told [] row = subst (λ (held : Row). IsTold (plain_in_image held)) (sym (empty row)) tt
  is_told (entry ∷ past) row = told_step past entry.tag entry.kind row (is_told past row)

-- a row holds data
pub record HoldsData (base : ChannelBase) (contents : List (Tag × List ℕ)) (past : List Entry) (row : ℕ) : Type 0 where
  pub data_bytes : List ℕ
  pub is_plain : plain_of base contents past row ≡ bytes data_bytes

page_isnt_empty : (slot : Slot) (serial : ℕ) → Row.Page slot serial ≢ Row.Empty
page_isnt_empty slot serial e = absurd (cc)

-- as it does where it names a page
pages_hold_data : (start : Start) (contents : List (Tag × List ℕ)) (past : List Entry) (row : ℕ) (slot : Slot) (serial : ℕ) →
    AreEmpty start.base → IsLawful start contents past → row_of start.base past row ≡ Row.Page slot serial →
    HoldsData start.base contents past row
pages_hold_data start contents past row slot serial empty lawful names =
    by_plain (plain_of start.base contents past row) refl (is_told start.base contents empty past row)
  where
    by_plain : (plain : PlainRow) → plain_of start.base contents past row ≡ plain → IsTold plain → HoldsData start.base contents past row
    by_plain nothing is told =
        absurd (page_isnt_empty slot serial (sym names ∙ (empty_rows_were_trimmed start contents past row lawful).1 is))
    by_plain (bytes data_bytes) is told = record { data_bytes = data_bytes; is_plain = is }
    by_plain untold is told = absurd told

-- a look knows the word of the data that its row held, which has these data
pub record KnowsPage (start : Start) (contents : List (Tag × List ℕ)) (past : List Entry) (at : ℕ) (look : Look) : Type 0 where
  pub data_bytes : List ℕ
  pub is_plain : plain_of start.base contents (past_at past at) look.row ≡ bytes data_bytes
  pub knows :
      KnowsFirst ((coding_of start.base).encoded look.serial look.row data_bytes) (ladder_of (coding_of start.base) start contents past at)
  pub has_data : bytes_of_word start.base.shape.bytes ((coding_of start.base).encoded look.serial look.row data_bytes) ≡ data_bytes

pub looks_know_pages : (start : Start) (contents : List (Tag × List ℕ)) (past : List Entry) (at : ℕ) (look : Look) → AreEmpty start.base →
    IsUnagedPast start contents past → look_of past at ≡ Some look → KnowsPage start contents past at look
looks_know_pages start contents past at look empty unaged is =
    let older : IsUnagedPast start contents (past_at past at) = unaged_at start contents past (length past - at) unaged in
    let found : HasFound start.base (past_at past at) look =
    looks_found (ladder_of (coding_of start.base) start contents) start.base past at look unaged.is_written.is_lawful is in
    let holds : HoldsData start.base contents (past_at past at) look.row =
    pages_hold_data start contents (past_at past at) look.row look.slot look.serial empty older.is_written.is_lawful found.is_found in
    let is_data : IsData start.base.shape.bytes holds.data_bytes =
    plain_is_data start.base contents look.row holds.data_bytes (past_at past at) older.is_written.write_data holds.is_plain in
    record {
      data_bytes = holds.data_bytes;
      is_plain = holds.is_plain;
      knows = ladders_know start contents past at look holds.data_bytes unaged is holds.is_plain;
      has_data = (unaged.reads_back.words look.serial look.row holds.data_bytes is_data).has_data;
    }

not_uncorrectable : (word : List ℕ) (state : LadderState) → KnowsFirst word state → is_uncorrectable state ≡ true → ⊥
not_uncorrectable word (asks place level) knows is = false≢true is
not_uncorrectable word (recovered rung found) knows is = false≢true is
not_uncorrectable word uncorrectable knows is = knows

-- so no page is condemned
none_condemned_here : (start : Start) (contents : List (Tag × List ℕ)) (past : List Entry) (tag : Tag) (kind : Kind) → AreEmpty start.base →
    IsUnagedPast start contents past → IsLawfulKind (ladder_of (coding_of start.base) start contents past) start.base past tag kind →
    IsNoCondemn kind
none_condemned_here start contents past tag (Kind.Condemn at) empty unaged lawful =
    let state : LadderState = ladder_of (coding_of start.base) start contents past at in
    let step : StepLook past at (λ pin. Unit {0}) (λ look. IsLawfulCondemn (ladder_of (coding_of start.base) start contents past at) start.base past look) =
    step_look past tag at (λ pin. Unit {0})
    (λ look. IsLawfulCondemn (ladder_of (coding_of start.base) start contents past at) start.base past look) (λ k d within. tt) lawful in
    let known : KnowsPage start contents past at step.pin.1 = looks_know_pages start contents past at step.pin.1 empty unaged step.is_look in
    not_uncorrectable _ state known.knows step.fact.is_uncorrectable
none_condemned_here start contents past tag kind empty unaged lawful = tt

none_condemned : (start : Start) (contents : List (Tag × List ℕ)) (past : List Entry) → AreEmpty start.base → IsUnagedPast start contents past →
    All (λ entry. IsNoCondemn entry.kind) past
none_condemned start contents [] empty unaged = All-nil (λ (entry : Entry). IsNoCondemn entry.kind)
none_condemned start contents (entry ∷ past) empty unaged =
    let older : IsUnagedPast start contents past = unaged_at start contents (entry ∷ past) 1 unaged in
    All-cons (λ (other : Entry). IsNoCondemn other.kind) entry past
    (none_condemned_here start contents past entry.tag entry.kind empty older unaged.is_written.is_lawful.1.meets)
    (none_condemned start contents past empty older)

empty_isnt_lost : (held : Row) → held ≡ Row.Empty → held ≢ Row.Lost
empty_isnt_lost held is e = lost (sym is ∙ e)
  where
    lost : Row.Empty ≢ Row.Lost
    lost f = absurd (cc)

-- and no row is lost
pub no_row_is_lost : (start : Start) (contents : List (Tag × List ℕ)) (past : List Entry) (row : ℕ) → AreEmpty start.base →
    IsUnagedPast start contents past → row_of start.base past row ≢ Row.Lost
no_row_is_lost start contents past row empty unaged =
    lost_rows_were_condemned start.base past row (none_condemned start contents past empty unaged)
    (empty_isnt_lost (row_of start.base [] row) (empty row))
