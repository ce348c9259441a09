-- The page that a row names has the word of the row's latest write, where all copies since then are of pages that were
-- recovered.
use Rattle.std.proofs.Common.{◌≡◌, ℕ, ◌<◌, ◌==◌, ◌&&◌, Bool, true, false, List, [], ◌∷◌, refl, ap, sym, subst, ◌∙◌, Option, Some, None, arith, All, IsSome}
use Rattle.std.specs.Prelude.{option_map, slice_index_or}
use Rattle.std.proofs.lemmas.Bool.Decides.{nat_tests}
use Rattle.std.proofs.lemmas.List.Elements.{All-head, All-tail}
use Rattle.ssd_geo.specs.Coding.{Coding}
use Rattle.ssd_geo.specs.Ladder.{word_recovered}
use Rattle.ssd_geo.specs.Stripe.{place_of_slot}
use Rattle.ssd_geo.specs.declared.entry.Entry.{Entry}
use Rattle.ssd_geo.specs.declared.kind.Kind.{Kind}
use Rattle.ssd_geo.specs.declared.look.Look.{Look}
use Rattle.ssd_geo.specs.declared.place.Place.{Place}
use Rattle.ssd_geo.specs.declared.row.Row.{Row}
use Rattle.ssd_geo.specs.declared.slot.Slot.{Slot}
use Rattle.ssd_geo.specs.declared.tag.Tag.{Tag}
use Rattle.ssd_histories.specs.History.{look_of, open_looks}
use Rattle.ssd_histories.specs.Lawful.{IsLawfulKind, IsLawfulMove}
use Rattle.ssd_histories.specs.LookLaws.{NamesUsed, RowsNameUsed}
use Rattle.ssd_histories.specs.PastPages.{PageChange, StoredPage, programs, programs_parity, empties, ages, leaves, aged_page, change_by_program, is_place, ladder_of, page_change, page_of, senses_of, word_of_page, word_programmed}
use Rattle.ssd_histories.specs.PastRows.{row_after, row_of, serial_of}
use Rattle.ssd_histories.specs.PinnedPages.{HasDuePages, KeepsPages}
use Rattle.ssd_histories.specs.PlainMap.{PlainRow, bytes, copies_of, is_look_of_row, nothing, past_at, plain_in_image, plain_of, untold, word_looked_at}
use Rattle.ssd_histories.specs.Ranges.{is_in_range}
use Rattle.ssd_histories.specs.Start.{Start, data_of}
use Rattle.ssd_histories.proofs.OpenLookLaws.{rows_name_used}
use Rattle.ssd_histories.proofs.PinnedWords.{pinned_pages_stay}
use Rattle.ssd_histories.proofs.UsedSlots.{made}
use Rattle.recovery_laws.proofs.NamedPages.{named_kept, word_kept}
use Rattle.recovery_laws.proofs.Pasts.{StepLook, step_look}
use Rattle.recovery_laws.proofs.SettledLadders.{FindWords, IsLawfulHere, find_before}
use Rattle.std.proofs.lemmas.Bool.{eqb-true}
use Rattle.ssd_histories.proofs.SlotPrograms.{programs_own}

abbrev slot_within : Slot → Row → Slot
slot_within slot (Row.Page held serial) = held
slot_within slot Row.Empty = slot
slot_within slot Row.Lost = slot

abbrev serial_within : Row → ℕ
serial_within (Row.Page held serial) = serial
serial_within Row.Empty = 0
serial_within Row.Lost = 0

abbrev data_within : PlainRow → List ℕ
data_within nothing = []
data_within (bytes data_bytes) = data_bytes
data_within untold = []

-- no row of the image is told
image_untold : (row : Row) (data_bytes : List ℕ) → plain_in_image row ≡ bytes data_bytes → ⊥
image_untold Row.Empty data_bytes e = absurd (cc)
image_untold Row.Lost data_bytes e = absurd (cc)
image_untold (Row.Page slot serial) data_bytes e = absurd (cc)

-- a page with a word is programmed
pub has_word : (page : Option StoredPage) (word : List ℕ) → word_of_page page ≡ Some word → IsSome page
has_word None word e = absurd (cc)
has_word (Some page) word e = refl

module _ (coding : Coding) (start : Start) (contents : List (Tag × List ℕ)) (Fact : ℕ → Type 0) where
  -- the word at a slot's place
  abbrev pub word_at : List Entry → Slot → Option (List ℕ)
  word_at past slot = word_of_page (page_of coding start contents past (place_of_slot start.base.shape.dies slot))

  -- what a past has for a row that holds data by its writes and trims, where the facts hold at all its copies
  abbrev pub HasWord : List Entry → ℕ → Type 0
  HasWord past row =
      (slot : Slot) (serial : ℕ) (data_bytes : List ℕ) → row_of start.base past row ≡ Row.Page slot serial → All Fact (copies_of past row) →
      plain_of start.base contents past row ≡ bytes data_bytes → word_at past slot ≡ Some (coding.encoded serial row data_bytes)

  -- a program of a slot leaves its word there
  word_is_programmed : (past : List Entry) (tag : Tag) (kind : Kind) (slot : Slot) →
      page_change start.base.shape.dies kind (place_of_slot start.base.shape.dies slot) ≡ programs →
      word_at (made tag kind ∷ past) slot ≡ Some (word_programmed coding start contents (senses_of coding start contents past) past tag kind)
  word_is_programmed past tag kind slot change =
      ap word_of_page (by_change (page_change start.base.shape.dies kind (place_of_slot start.base.shape.dies slot)) _ _ _ change)
    where
      by_change : (change : PageChange) (a before : Option StoredPage) (b : Slot → Option StoredPage) → change ≡ programs →
          ◌≡◌ {A = Option StoredPage} (elim change [
            | programs ↦ a
            | programs_parity slot ↦ b slot
            | empties ↦ None
            | ages amount ↦ option_map (aged_page start.base amount) before
            | leaves ↦ before
          ]) a
      by_change change a before b e = rw e refl

  module _ (past : List Entry) (tag : Tag) (row : ℕ) (lt : row < start.base.shape.rows) (used : NamesUsed start.base past (row_of start.base past row))
      (before : HasWord past row) where
    -- the word of a page that the row named and names stays
    word_stays : (kind : Kind) → is_in_range start.base.shape kind ≡ true → IsLawfulKind (ladder_of coding start contents past) start.base past tag kind →
        (slot : Slot) (serial : ℕ) → row_of start.base past row ≡ Row.Page slot serial → word_at (made tag kind ∷ past) slot ≡ word_at past slot
    word_stays kind range c slot serial is =
        word_kept start.base (page_change start.base.shape.dies kind (place_of_slot start.base.shape.dies slot)) _ _
        (page_of coding start contents past (place_of_slot start.base.shape.dies slot))
        (named_kept (ladder_of coding start contents past) start.base past row slot serial lt is (subst (NamesUsed start.base past) is used) tag kind range c)

    -- so where the row, its copies and its data are as they were, it has its word
    word_kept_by : (kind : Kind) → is_in_range start.base.shape kind ≡ true → IsLawfulKind (ladder_of coding start contents past) start.base past tag kind →
        (slot : Slot) (serial : ℕ) (data_bytes : List ℕ) → row_of start.base past row ≡ Row.Page slot serial → All Fact (copies_of past row) →
        plain_of start.base contents past row ≡ bytes data_bytes → word_at (made tag kind ∷ past) slot ≡ Some (coding.encoded serial row data_bytes)
    word_kept_by kind range c slot serial data_bytes is copies plain =
        word_stays kind range c slot serial is ∙ before slot serial data_bytes is copies plain

    -- a write of the row programs the word of its data
    write_step : (named : ℕ) (slot : Slot) → is_in_range start.base.shape (Kind.Write named slot) ≡ true →
        IsLawfulKind (ladder_of coding start contents past) start.base past tag (Kind.Write named slot) → HasWord (made tag (Kind.Write named slot) ∷ past) row
    write_step named slot range c held serial data_bytes is copies plain = by_test (named == row) refl is copies plain
      where
        kind : Kind
        kind = Kind.Write named slot

        written : named ≡ row → Row.Page slot (serial_of start.base.session tag) ≡ Row.Page held serial → bytes (data_of contents tag) ≡ bytes data_bytes →
            word_at (made tag (Kind.Write named slot) ∷ past) held ≡ Some (coding.encoded serial row data_bytes)
        written same here gives =
            let slots : slot ≡ held = ap {B = Slot} (slot_within slot) here in
            let serials : serial_of start.base.session tag ≡ serial = ap {B = ℕ} serial_within here in
            let same_data : data_of contents tag ≡ data_bytes = ap {B = List ℕ} data_within gives in
            ap {B = Option (List ℕ)} (word_at (made tag (Kind.Write named slot) ∷ past)) (sym slots)
            ∙ word_is_programmed past tag (Kind.Write named slot) slot (programs_own start.base.shape.dies slot)
            ∙ (λ i. Some (coding.encoded (serials i) (same i) (same_data i)))

        by_test : (b : Bool) → (named == row) ≡ b →
            (elim b [ true ↦ Row.Page slot (serial_of start.base.session tag) | false ↦ row_of start.base past row ]) ≡ Row.Page held serial →
            All Fact (elim b [ true ↦ [] | false ↦ copies_of past row ]) →
            (elim b [ true ↦ bytes (data_of contents tag) | false ↦ plain_of start.base contents past row ]) ≡ bytes data_bytes →
            word_at (made tag (Kind.Write named slot) ∷ past) held ≡ Some (coding.encoded serial row data_bytes)
        by_test true e here none gives = written (eqb-true named row e) here gives
        by_test false e here all gives = word_kept_by (Kind.Write named slot) range c held serial data_bytes here all gives

    -- a trim leaves no page, nor does a row that is lost name one
    trim_step : (named : ℕ) → is_in_range start.base.shape (Kind.Trim named) ≡ true → HasWord (made tag (Kind.Trim named) ∷ past) row
    trim_step named range held serial data_bytes is copies plain = by_test (named == row) is plain
      where
        by_test : (b : Bool) → (elim b [ true ↦ Row.Empty | false ↦ row_of start.base past row ]) ≡ Row.Page held serial →
            (elim b [ true ↦ nothing | false ↦ plain_of start.base contents past row ]) ≡ bytes data_bytes →
            word_at (made tag (Kind.Trim named) ∷ past) held ≡ Some (coding.encoded serial row data_bytes)
        by_test true here gives = absurd (cc)
        by_test false here gives = word_kept_by (Kind.Trim named) range tt held serial data_bytes here copies gives

    condemn_step : (at : ℕ) → is_in_range start.base.shape (Kind.Condemn at) ≡ true →
        IsLawfulKind (ladder_of coding start contents past) start.base past tag (Kind.Condemn at) → HasWord (made tag (Kind.Condemn at) ∷ past) row
    condemn_step at range c held serial data_bytes is copies plain = by_look (look_of past at) is
      where
        by_test : (b : Bool) → (elim b [ true ↦ Row.Lost | false ↦ row_of start.base past row ]) ≡ Row.Page held serial →
            word_at (made tag (Kind.Condemn at) ∷ past) held ≡ Some (coding.encoded serial row data_bytes)
        by_test true here = absurd (cc)
        by_test false here = word_kept_by (Kind.Condemn at) range c held serial data_bytes here copies plain

        by_look : (option : Option Look) → row_after (option_map (λ look. (look.row, Row.Lost)) option) row (row_of start.base past row) ≡ Row.Page held serial →
            word_at (made tag (Kind.Condemn at) ∷ past) held ≡ Some (coding.encoded serial row data_bytes)
        by_look None here = word_kept_by (Kind.Condemn at) range c held serial data_bytes here copies plain
        by_look (Some look) here = by_test (look.row == row) here

    -- a copy programs the word that its look's ladder recovered, and this is the word that the row's page has
    move_step : FindWords coding start contents Fact past → All (KeepsPages coding start contents past) (open_looks past) → (at : ℕ) (slot : Slot) →
        is_in_range start.base.shape (Kind.Move at slot) ≡ true → IsLawfulKind (ladder_of coding start contents past) start.base past tag (Kind.Move at slot) →
        HasWord (made tag (Kind.Move at slot) ∷ past) row
    move_step find pinned at slot range c held serial data_bytes is copies plain = by_test (look.row == row) refl is_here copies_here
      where
        step : StepLook past at (KeepsPages coding start contents past) (λ look. IsLawfulMove (ladder_of coding start contents past at) start.base past look slot)
        step =
            step_look past tag at (KeepsPages coding start contents past) (λ look. IsLawfulMove (ladder_of coding start contents past at) start.base past look slot)
            pinned c

        look : Look
        look = step.pin.1

        is_here : (elim (look.row == row) [ true ↦ Row.Page slot look.serial | false ↦ row_of start.base past row ]) ≡ Row.Page held serial
        is_here =
            subst (λ (option : Option Look). row_after (option_map (λ found. (found.row, Row.Page slot found.serial)) option) row (row_of start.base past row) ≡ Row.Page held serial)
            step.is_look is

        copies_here : All Fact (elim (look.row == row) [ true ↦ at ∷ copies_of past row | false ↦ copies_of past row ])
        copies_here =
            subst (λ (option : Option Look). All Fact (elim (is_look_of_row row option) [ true ↦ at ∷ copies_of past row | false ↦ copies_of past row ]))
            step.is_look copies

        copied : look.row ≡ row → Row.Page slot look.serial ≡ Row.Page held serial → Fact at → All Fact (copies_of past row) →
            word_at (made tag (Kind.Move at slot) ∷ past) held ≡ Some (coding.encoded serial row data_bytes)
        copied same here fact all =
            let slots : slot ≡ held = ap {B = Slot} (slot_within slot) here in
            let serials : look.serial ≡ serial = ap {B = ℕ} serial_within here in
            let found : word_looked_at coding start contents past look ≡ Some (word_recovered (ladder_of coding start contents past at)) =
            find at look fact step.is_look step.fact.may_copy.is_recovered in
            let unchanged : row_of start.base past row ≡ Row.Page look.slot look.serial =
            ap {B = Row} (row_of start.base past) (sym same) ∙ step.fact.may_copy.is_unchanged in
            let now : word_at past look.slot ≡ Some (coding.encoded look.serial row data_bytes) =
            before look.slot look.serial data_bytes unchanged all plain in
            let stayed : word_at past look.slot ≡ word_looked_at coding start contents past look =
            (step.has.pages (place_of_slot start.base.shape.dies look.slot) refl
            (has_word (page_of coding start contents (past_at past look.at) (place_of_slot start.base.shape.dies look.slot))
            (word_recovered (ladder_of coding start contents past at)) found)).word in
            ap {B = Option (List ℕ)} (word_at (made tag (Kind.Move at slot) ∷ past)) (sym slots)
            ∙ word_is_programmed past tag (Kind.Move at slot) slot (programs_own start.base.shape.dies slot)
            ∙ sym found ∙ sym stayed ∙ now ∙ (λ i. Some (coding.encoded (serials i) row data_bytes))

        by_test : (b : Bool) → (look.row == row) ≡ b →
            (elim b [ true ↦ Row.Page slot look.serial | false ↦ row_of start.base past row ]) ≡ Row.Page held serial →
            All Fact (elim b [ true ↦ at ∷ copies_of past row | false ↦ copies_of past row ]) →
            word_at (made tag (Kind.Move at slot) ∷ past) held ≡ Some (coding.encoded serial row data_bytes)
        by_test true e here all =
            copied (eqb-true look.row row e) here (All-head Fact at (copies_of past row) all) (All-tail Fact at (copies_of past row) all)
        by_test false e here all = word_kept_by (Kind.Move at slot) range c held serial data_bytes here all plain

    word_step : FindWords coding start contents Fact past → All (KeepsPages coding start contents past) (open_looks past) → (kind : Kind) →
        is_in_range start.base.shape kind ≡ true → IsLawfulKind (ladder_of coding start contents past) start.base past tag kind →
        HasWord (made tag kind ∷ past) row
    word_step find pinned (Kind.Write named slot) range c = write_step named slot range c
    word_step find pinned (Kind.Trim named) range c = trim_step named range
    word_step find pinned (Kind.Move at slot) range c = move_step find pinned at slot range c
    word_step find pinned (Kind.Condemn at) range c = condemn_step at range c
    word_step find pinned kind range c = word_kept_by kind range c

  -- each row of a lawful past
  pub rows_have_words : (past : List Entry) (row : ℕ) → HasDuePages start → RowsNameUsed start.base → IsLawfulHere coding start contents past →
      FindWords coding start contents Fact past → row < start.base.shape.rows → HasWord past row
  rows_have_words [] row due names lawful find lt =
      λ slot serial data_bytes is copies plain. absurd (image_untold (slice_index_or start.base.rows row Row.Empty) data_bytes plain)
  rows_have_words (entry ∷ past) row due names lawful find lt =
      let older : FindWords coding start contents Fact past = find_before coding start contents Fact past entry.tag entry.kind lawful.1.meets find in
      word_step past entry.tag row lt (rows_name_used (ladder_of coding start contents) start.base past names lawful.0 row lt)
      (rows_have_words past row due names lawful.0 older lt) older
      (pinned_pages_stay (ladder_of coding start contents) coding start contents past due lawful.0) entry.kind lawful.1.in_range lawful.1.meets
