-- Looks whose pages were recovered: the proofs of the laws of specs/RecoveredReads.antt.
use Rattle.std.proofs.Common.{◌≡◌, ℕ, ◌-◌, ◌<◌, ◌≤◌, ◌==◌, nat_lt, Bool, true, false, List, [], ◌∷◌, length, refl, ap, sym, subst, ◌∙◌, Option, Some, arith, All, ltb-true}
use Rattle.std.specs.Prelude.{IsSomeAnd, option_map, slice_index_or, unwrap_or}
use Rattle.std.proofs.lemmas.Bool.Decides.{nat_tests}
use Rattle.std.proofs.lemmas.List.Elements.{All-drop, All-head, All-tail}
use Rattle.ssd_geo.specs.Coding.{Coding, coding_of, data_in}
use Rattle.ssd_geo.specs.Ladder.{LadderState, recovered}
use Rattle.ssd_geo.specs.declared.base.ChannelBase.{ChannelBase}
use Rattle.ssd_geo.specs.declared.entry.Entry.{Entry}
use Rattle.ssd_geo.specs.declared.kind.Kind.{Kind}
use Rattle.ssd_geo.specs.declared.look.Look.{Look}
use Rattle.ssd_geo.specs.declared.row.Row.{Row}
use Rattle.ssd_geo.specs.declared.slot.Slot.{Slot}
use Rattle.ssd_geo.specs.declared.tag.Tag.{Tag}
use Rattle.ssd_histories.specs.History.{look_made, look_of, open_look}
use Rattle.ssd_histories.specs.Lawful.{IsLawfulBy, IsLawfulCondemn, IsLawfulEntry, IsLawfulKind, IsLawfulMove, page_looked_at}
use Rattle.ssd_histories.specs.PastPages.{ladder_of}
use Rattle.ssd_histories.specs.PastRows.{row_after, row_of, serial_of}
use Rattle.ssd_histories.specs.PlainMap.{HasRecovered, IsRecoveredPage, PlainRow, bytes, nothing, past_at, plain_in_image, plain_of, untold, word_looked_at}
use Rattle.ssd_histories.specs.Ranges.{has_row}
use Rattle.ssd_histories.specs.Start.{Start, data_of}
use Rattle.ssd_histories.proofs.UsedSlots.{first_holds, made}
use Rattle.ssd_histories.specs.LastWrites.{IsData}
use Rattle.recovery_laws.specs.RecoveredReads.{EmptyRowsWereTrimmed, RecoveredPagesStay, RecoveredReadsArePlain, TrimmedRowsHaveNoPage, WritesData}
use Rattle.ssd_histories.proofs.PinnedWords.{past_before, past_now}
use Rattle.recovery_laws.proofs.Pasts.{look_is_made_at, step_look, StepLook}
use Rattle.recovery_laws.proofs.RowWords.{rows_have_words}
use Rattle.recovery_laws.proofs.SettledLadders.{FindWords, find_at, lawful_at, recovered_find, recovered_stays}
use Rattle.recovery_laws.proofs.WordData.{words_have_data}

-- what a row holds by its writes and trims are data where each write's are
data_after : (count : ℕ) (b : Bool) (written data_bytes : List ℕ) (before : PlainRow) → IsData count written → (before ≡ bytes data_bytes → IsData count data_bytes) →
    (elim b [ true ↦ bytes written | false ↦ before ]) ≡ bytes data_bytes → IsData count data_bytes
data_after count true written data_bytes before is_data older e = subst (IsData count) (ap held e) is_data
  where
    held : PlainRow → List ℕ
    held nothing = []
    held (bytes these) = these
    held untold = []
data_after count false written data_bytes before is_data older e = older e

data_after_trim : (count : ℕ) (b : Bool) (data_bytes : List ℕ) (before : PlainRow) → (before ≡ bytes data_bytes → IsData count data_bytes) →
    (elim b [ true ↦ nothing | false ↦ before ]) ≡ bytes data_bytes → IsData count data_bytes
data_after_trim count true data_bytes before older e = absurd (cc)
data_after_trim count false data_bytes before older e = older e

image_has_none : (count : ℕ) (row : Row) (data_bytes : List ℕ) → plain_in_image row ≡ bytes data_bytes → IsData count data_bytes
image_has_none count Row.Empty data_bytes e = absurd (cc)
image_has_none count Row.Lost data_bytes e = absurd (cc)
image_has_none count (Row.Page slot serial) data_bytes e = absurd (cc)

module _ (base : ChannelBase) (contents : List (Tag × List ℕ)) (row : ℕ) (data_bytes : List ℕ) where
  data_step : (past : List Entry) (tag : Tag) (kind : Kind) → WritesData base.shape.bytes contents tag kind →
      (plain_of base contents past row ≡ bytes data_bytes → IsData base.shape.bytes data_bytes) →
      plain_of base contents (made tag kind ∷ past) row ≡ bytes data_bytes → IsData base.shape.bytes data_bytes
  data_step past tag (Kind.Write named slot) writes older plain =
      data_after base.shape.bytes (named == row) (data_of contents tag) data_bytes (plain_of base contents past row) writes older plain
  data_step past tag (Kind.Trim named) writes older plain =
      data_after_trim base.shape.bytes (named == row) data_bytes (plain_of base contents past row) older plain
  data_step past tag kind writes older plain = older plain

  pub plain_is_data : (past : List Entry) → All (λ entry. WritesData base.shape.bytes contents entry.tag entry.kind) past →
      plain_of base contents past row ≡ bytes data_bytes → IsData base.shape.bytes data_bytes
  plain_is_data [] writes plain = image_has_none base.shape.bytes (slice_index_or base.rows row Row.Empty) data_bytes plain
  plain_is_data (entry ∷ past) writes plain =
      data_step past entry.tag entry.kind (All-head (λ (other : Entry). WritesData base.shape.bytes contents other.tag other.kind) entry past writes)
      (plain_is_data past (All-tail (λ (other : Entry). WritesData base.shape.bytes contents other.tag other.kind) entry past writes)) plain

-- a look of a lawful past found what its row held
pub record HasFound (base : ChannelBase) (before : List Entry) (look : Look) : Type 0 where
  pub in_rows : look.row < base.shape.rows
  pub is_found : row_of base before look.row ≡ page_looked_at look

look_found : (state : ℕ → LadderState) (base : ChannelBase) (past : List Entry) (tag : Tag) (kind : Kind) (at : ℕ) (look : Look) →
    IsLawfulEntry state base past (made tag kind) → look_made at kind ≡ Some look → HasFound base past look
look_found state base past tag (Kind.Look row (Row.Page slot serial) closed) at look lawful is =
    subst (HasFound base past) (ap (λ (option : Option Look). unwrap_or option this) is)
    (record {
      in_rows = ltb-true row base.shape.rows (first_holds (nat_lt row base.shape.rows) (has_row base.shape (Row.Page slot serial)) lawful.in_range);
      is_found = sym lawful.meets.is_found;
    })
  where
    this : Look
    this = record { at = at; row = row; slot = slot; serial = serial; closed = closed }
look_found state base past tag kind at look lawful is = absurd (cc)

pub looks_found : (ladder : List Entry → ℕ → LadderState) (base : ChannelBase) (past : List Entry) (at : ℕ) (look : Look) → IsLawfulBy ladder base past →
    look_of past at ≡ Some look → HasFound base (past_at past at) look
looks_found ladder base [] at look lawful is = absurd (cc)
looks_found ladder base (entry ∷ past) at look lawful is = by_test (length past == at) refl (looks_found ladder base past at look lawful.0) is
  where
    same_number : (n : ℕ) → (n == at) ≡ true → n ≡ at
    same_number n e = grind (arith, nat_tests)

    by_test : (b : Bool) → (length past == at) ≡ b → (look_of past at ≡ Some look → HasFound base (past_at past at) look) →
        ◌≡◌ {A = Option Look} (elim b [ true ↦ look_made at entry.kind | false ↦ look_of past at ]) (Some look) →
        HasFound base (past_at (entry ∷ past) at) look
    by_test true e older here =
        subst (λ (before : List Entry). HasFound base before look)
        (sym (ap (past_at (entry ∷ past)) (sym (same_number (length past) e)) ∙ past_now entry past))
        (look_found (ladder past) base past entry.tag entry.kind at look lawful.1 here)
    by_test false e older made_before =
        subst (λ (before : List Entry). HasFound base before look)
        (sym (past_before entry past at (below (look_is_made_at past at look made_before).below)))
        (older made_before)
      where
        below : at < length past → at ≤ length past
        below lt = omega arith

-- once its look has settled
pub recovered_pages_stay : RecoveredPagesStay
recovered_pages_stay coding start contents past position at lawful below settled =
    recovered_stays coding start contents (length past - position) past at lawful below settled

-- what a ladder found that had recovered a page
found_is : (state : LadderState) (rung : ℕ) (word : List ℕ) (stood : Option (List ℕ)) → state ≡ recovered rung word → HasRecovered state stood → stood ≡ Some word
found_is state rung word stood e has = subst (λ (s : LadderState). HasRecovered s stood) e has

same_word : (a b : List ℕ) → Some a ≡ Some b → a ≡ b
same_word a b e = ap {B = List ℕ} (λ (option : Option (List ℕ)). unwrap_or option a) e

pub recovered_reads_are_plain : RecoveredReadsArePlain
recovered_reads_are_plain start contents past look rung word data_bytes written is copies has_recovered plain =
    let coding : Coding = coding_of start.base in
    let newer : ℕ = length past - look.at in
    let before : List Entry = past_at past look.at in
    let found : HasFound start.base before look = looks_found (ladder_of coding start contents) start.base past look.at look written.is_lawful is in
    let find : FindWords coding start contents (IsRecoveredPage coding start contents past) before =
    find_at coding start contents (IsRecoveredPage coding start contents past) newer past written.is_lawful (recovered_find coding start contents past) in
    let stood : word_looked_at coding start contents past look ≡ Some (coding.encoded look.serial look.row data_bytes) =
    rows_have_words coding start contents (IsRecoveredPage coding start contents past) before look.row written.has_named_pages.has_due_pages
    written.has_named_pages.rows_name_used (lawful_at coding start contents newer past written.is_lawful) find found.in_rows look.slot look.serial data_bytes
    found.is_found copies.copies plain in
    let own : word_looked_at coding start contents past look ≡ Some word =
    found_is (ladder_of coding start contents past look.at) rung word (word_looked_at coding start contents past look) has_recovered
    (subst (λ (option : Option Look). IsSomeAnd option
    (λ held. HasRecovered (ladder_of coding start contents past look.at) (word_looked_at coding start contents past held))) is copies.own) in
    let same : word ≡ coding.encoded look.serial look.row data_bytes = same_word word (coding.encoded look.serial look.row data_bytes) (sym own ∙ stood) in
    let is_data : IsData start.base.shape.bytes data_bytes =
    plain_is_data start.base contents look.row data_bytes before
    (All-drop (λ (entry : Entry). WritesData start.base.shape.bytes contents entry.tag entry.kind) newer past written.write_data) plain in
    record {
      is_encoded = same;
      has_data = ap (data_in start.base.shape look.serial look.row) same ∙ words_have_data start.base look.serial look.row data_bytes is_data;
    }

-- a row is empty just where it holds nothing, by its writes and trims
abbrev IsBoth : Row → PlainRow → Type 0
IsBoth row plain = (row ≡ Row.Empty → plain ≡ nothing) × (plain ≡ nothing → row ≡ Row.Empty)

-- neither is, for what was written, copied or lost
page_isnt : (slot : Slot) (serial : ℕ) → Row.Page slot serial ≡ Row.Empty → ⊥
page_isnt slot serial e = absurd (cc)

image_is_both : (row : Row) → IsBoth row (plain_in_image row)
image_is_both Row.Empty = (λ e. refl, λ e. refl)
image_is_both Row.Lost = (λ e. absurd (cc), λ e. absurd (cc))
image_is_both (Row.Page slot serial) = (λ e. absurd (cc), λ e. absurd (cc))

write_is_both : (b : Bool) (slot : Slot) (serial : ℕ) (data_bytes : List ℕ) (row : Row) (plain : PlainRow) → IsBoth row plain →
    IsBoth (elim b [ true ↦ Row.Page slot serial | false ↦ row ]) (elim b [ true ↦ bytes data_bytes | false ↦ plain ])
write_is_both true slot serial data_bytes row plain before = (λ e. absurd (cc), λ e. absurd (cc))
write_is_both false slot serial data_bytes row plain before = before

trim_is_both : (b : Bool) (row : Row) (plain : PlainRow) → IsBoth row plain →
    IsBoth (elim b [ true ↦ Row.Empty | false ↦ row ]) (elim b [ true ↦ nothing | false ↦ plain ])
trim_is_both true row plain before = (λ e. refl, λ e. refl)
trim_is_both false row plain before = before

-- a page that was copied or lost was none of an empty row
copy_is_both : (b : Bool) (to held : Row) (slot : Slot) (serial : ℕ) (plain : PlainRow) → (to ≡ Row.Empty → ⊥) → (b ≡ true → held ≡ Row.Page slot serial) →
    IsBoth held plain → IsBoth (elim b [ true ↦ to | false ↦ held ]) plain
copy_is_both true to held slot serial plain isnt page before =
    (λ e. absurd (isnt e), λ e. absurd (page_isnt slot serial (sym (page refl) ∙ before.1 e)))
copy_is_both false to held slot serial plain isnt page before = before

module _ (start : Start) (contents : List (Tag × List ℕ)) (row : ℕ) where
  -- where a look's row is as it was found, and it changes to what isn't empty
  look_is_both : (past : List Entry) (tag : Tag) (at : ℕ) (to : Look → Row) (Fact : Look → Type 0) → ((look : Look) → to look ≡ Row.Empty → ⊥) →
      ((look : Look) → Fact look → row_of start.base past look.row ≡ page_looked_at look) → IsSomeAnd (open_look past tag at) Fact →
      IsBoth (row_of start.base past row) (plain_of start.base contents past row) →
      IsBoth (row_after (option_map (λ look. (look.row, to look)) (look_of past at)) row (row_of start.base past row)) (plain_of start.base contents past row)
  look_is_both past tag at to Fact isnt unchanged some before =
      let step : StepLook past at (λ pin. Unit {0}) Fact = step_look past tag at (λ pin. Unit {0}) Fact (λ k d within. tt) some in
      subst (λ (option : Option Look). IsBoth (row_after (option_map (λ look. (look.row, to look)) option) row (row_of start.base past row)) (plain_of start.base contents past row))
      (sym step.is_look)
      (copy_is_both (step.pin.1.row == row) (to step.pin.1) (row_of start.base past row) step.pin.1.slot step.pin.1.serial (plain_of start.base contents past row)
      (isnt step.pin.1) (λ e. ap {B = Row} (row_of start.base past) (sym (same_number step.pin.1.row e)) ∙ unchanged step.pin.1 step.fact) before)
    where
      same_number : (n : ℕ) → (n == row) ≡ true → n ≡ row
      same_number n e = grind (arith, nat_tests)

  is_both_step : (state : ℕ → LadderState) (past : List Entry) (tag : Tag) (kind : Kind) → IsLawfulKind state start.base past tag kind →
      IsBoth (row_of start.base past row) (plain_of start.base contents past row) →
      IsBoth (row_of start.base (made tag kind ∷ past) row) (plain_of start.base contents (made tag kind ∷ past) row)
  is_both_step state past tag (Kind.Write named slot) c before =
      write_is_both (named == row) slot (serial_of start.base.session tag) (data_of contents tag) (row_of start.base past row) (plain_of start.base contents past row) before
  is_both_step state past tag (Kind.Trim named) c before =
      trim_is_both (named == row) (row_of start.base past row) (plain_of start.base contents past row) before
  is_both_step state past tag (Kind.Move at slot) c before =
      look_is_both past tag at (λ look. Row.Page slot look.serial) (λ look. IsLawfulMove (state at) start.base past look slot)
      (λ look e. absurd (cc)) (λ look move. move.may_copy.is_unchanged) c before
  is_both_step state past tag (Kind.Condemn at) c before =
      look_is_both past tag at (λ look. Row.Lost) (λ look. IsLawfulCondemn (state at) start.base past look)
      (λ look e. absurd (cc)) (λ look condemn. condemn.is_unchanged) c before
  is_both_step state past tag kind c before = before

  is_both : (ladder : List Entry → ℕ → LadderState) (past : List Entry) → IsLawfulBy ladder start.base past →
      IsBoth (row_of start.base past row) (plain_of start.base contents past row)
  is_both ladder [] lawful = image_is_both (slice_index_or start.base.rows row Row.Empty)
  is_both ladder (entry ∷ past) lawful = is_both_step (ladder past) past entry.tag entry.kind lawful.1.meets (is_both ladder past lawful.0)

pub empty_rows_were_trimmed : EmptyRowsWereTrimmed
empty_rows_were_trimmed start contents past row lawful = is_both start contents row (ladder_of (coding_of start.base) start contents) past lawful

pub trimmed_rows_have_no_page : TrimmedRowsHaveNoPage
trimmed_rows_have_no_page start contents past look lawful is none =
    let coding : Coding = coding_of start.base in
    let found : HasFound start.base (past_at past look.at) look = looks_found (ladder_of coding start contents) start.base past look.at look lawful is in
    page_isnt look.slot look.serial
    (sym found.is_found ∙ (is_both start contents look.row (ladder_of coding start contents) (past_at past look.at)
    (lawful_at coding start contents (length past - look.at) past lawful)).1 none)
