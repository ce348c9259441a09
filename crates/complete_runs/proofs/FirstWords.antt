-- Where the words of a channel are read from their first sense and no block was aged, the ladder of each look of a page whose
-- row held data has nothing but that sense to ask for: with it, it recovers the very word that stood in the page, at rung 0.
use Rattle.std.proofs.Common.{◌≡◌, ℕ, ◌-◌, ◌==◌, Bool, true, false, List, [], ◌∷◌, ◌++◌, drop, length, refl, ap, sym, subst, ◌∙◌, Option, Some, None, ℤ, arith, All}
use Rattle.std.specs.Prelude.{IsSomeAnd, IsSome, ⊤}
use Rattle.std.proofs.lemmas.List.Elements.{All-drop, All-tail}
use Rattle.ssd_geo.specs.Cells.{sensed}
use Rattle.ssd_geo.specs.Coding.{Coding, coding_of}
use Rattle.ssd_geo.specs.Ladder.{LadderState, asks, ladder_over, other_places, recovered, uncorrectable}
use Rattle.ssd_geo.specs.Stripe.{place_of_slot}
use Rattle.ssd_geo.specs.declared.entry.Entry.{Entry}
use Rattle.ssd_geo.specs.declared.kind.Kind.{Kind}
use Rattle.ssd_geo.specs.declared.look.Look.{Look}
use Rattle.ssd_geo.specs.declared.place.Place.{Place}
use Rattle.ssd_geo.specs.declared.tag.Tag.{Tag}
use Rattle.ssd_histories.specs.History.{look_made, look_of, open_look, open_looks}
use Rattle.ssd_histories.specs.LastWrites.{IsData}
use Rattle.ssd_histories.specs.Lawful.{IsLawful, IsLawfulKind, IsLawfulSense}
use Rattle.ssd_histories.specs.PastPages.{ladder_of, levels_in, page_of, sense_for, senses_of, word_of_page}
use Rattle.ssd_histories.specs.PinnedPages.{HasDuePages, KeepsPages}
use Rattle.ssd_histories.specs.PlainMap.{IsRecoveredPage, bytes, past_at, plain_of, word_looked_at}
use Rattle.ssd_histories.specs.Start.{Start}
use Rattle.ssd_histories.proofs.PinnedWords.{past_before, pinned_pages_stay}
use Rattle.ssd_histories.proofs.UsedSlots.{made}
use Rattle.recovery_laws.specs.RecoveredReads.{IsWrittenPast, WritesData}
use Rattle.recovery_laws.proofs.Pasts.{IsMadeAt, StepLook, look_is_made_at, step_look}
use Rattle.recovery_laws.proofs.RecoveredReads.{HasFound, looks_found, plain_is_data}
use Rattle.recovery_laws.proofs.RowWords.{has_word, rows_have_words}
use Rattle.recovery_laws.proofs.SettledLadders.{lawful_at, recovered_find}
use Rattle.run_laws.specs.FirstSenses.{IsNoAgeing, IsUnagedPast, ReadsBack, WordIsRead}
use Rattle.run_laws.proofs.CopiedPages.{copies_are_recovered, look_senses_none}
use Rattle.run_laws.proofs.FirstLadders.{asks_first, recovers_first}
use Rattle.run_laws.proofs.FreshCells.{HasFreshCells, told_words_are_fresh}
use Rattle.run_laws.proofs.LookSenses.{none_sensed}
use Rattle.std.proofs.lemmas.Bool.{eqb-true}
use Rattle.std.proofs.lemmas.Option.{same_Some}

-- what a ladder comes to with no sense but its first: it asks, or has recovered a word at rung 0
abbrev pub KnowsFirst : List ℕ → LadderState → Type 0
KnowsFirst word (asks place level) = ⊤
KnowsFirst word (recovered rung found) = (rung ≡ 0) × (found ≡ word)
KnowsFirst word uncorrectable = ⊥

-- senses of which the first, if there is one, gave a word
abbrev GaveFirst : List ℕ → List (List ℕ) → Type 0
GaveFirst word [] = ⊤
GaveFirst word (sense ∷ senses) = sense ≡ word

gave_more : (word : List ℕ) (senses : List (List ℕ)) (sense : List ℕ) → GaveFirst word senses → (senses ≡ [] → sense ≡ word) →
    GaveFirst word (senses ++ sense ∷ [])
gave_more word [] sense gave first = first refl
gave_more word (older ∷ senses) sense gave first = gave

-- what a ladder asks for
abbrev asked_of : Place × ℤ → LadderState → Place × ℤ
asked_of other (asks place level) = (place, level)
asked_of other (recovered rung word) = other
asked_of other uncorrectable = other

module _ (start : Start) (contents : List (Tag × List ℕ)) (reads : ReadsBack start.base) (due : HasDuePages start) where
  abbrev coding : Coding
  coding = coding_of start.base

  abbrev dies : ℕ
  dies = start.base.shape.dies

  abbrev AreUnaged : List Entry → Type 0
  AreUnaged past = All (λ entry. IsNoAgeing entry.kind) past

  module _ (at : ℕ) (look : Look) (data_bytes : List ℕ) (is_data : IsData start.base.shape.bytes data_bytes) where
    abbrev word : List ℕ
    word = coding.encoded look.serial look.row data_bytes

    abbrev place_of_look : Place
    place_of_look = place_of_slot dies look.slot

    read : WordIsRead start.base reads.level look.serial look.row data_bytes
    read = reads.words look.serial look.row data_bytes is_data

    -- its ladder, over these senses
    ladder_with : (past : List Entry) (senses : List (List ℕ)) → look_of past at ≡ Some look → senses_of coding start contents past at ≡ senses →
        ladder_of coding start contents past at ≡ ladder_over coding dies (Some look) senses
    ladder_with past senses is e =
        ap (λ (option : Option Look). ladder_over coding dies option (senses_of coding start contents past at)) is
        ∙ ap (λ (given : List (List ℕ)). ladder_over coding dies (Some look) given) e

    knows : (past : List Entry) → look_of past at ≡ Some look → GaveFirst word (senses_of coding start contents past at) →
        KnowsFirst word (ladder_of coding start contents past at)
    knows past is gave = by_senses (senses_of coding start contents past at) refl gave
      where
        by_senses : (senses : List (List ℕ)) → senses_of coding start contents past at ≡ senses → GaveFirst word senses →
            KnowsFirst word (ladder_of coding start contents past at)
        by_senses [] e first =
            subst (KnowsFirst word)
            (sym (ladder_with past [] is e
            ∙ asks_first coding (coding.has_head look.serial look.row) place_of_look (other_places dies place_of_look) look.closed reads.level reads.is_first)) tt
        by_senses (sense ∷ rest) e first =
            subst (KnowsFirst word)
            (sym (ladder_with past (sense ∷ rest) is e
            ∙ ap (λ (given : List ℕ). ladder_over coding dies (Some look) (given ∷ rest)) first
            ∙ recovers_first coding (coding.has_head look.serial look.row) place_of_look (other_places dies place_of_look) look.closed reads.level word word rest
            reads.is_first read.is_found read.has_head)) (refl, refl)

    -- a first sense gives the word that stood in the page, which stands there still
    first_gives : (past : List Entry) (tag : Tag) (place : Place) (level : ℤ) →
        IsSomeAnd (open_look past tag at) (λ held. IsLawfulSense (ladder_of coding start contents past at) past at place level) →
        All (KeepsPages coding start contents past) (open_looks past) → AreUnaged past → look_of past at ≡ Some look →
        word_looked_at coding start contents past look ≡ Some word → senses_of coding start contents past at ≡ [] →
        sensed level (levels_in start.base (page_of coding start contents past place)) ≡ word
    first_gives past tag place level c pinned unaged is stood none =
        let step : StepLook past at (KeepsPages coding start contents past) (λ held. IsLawfulSense (ladder_of coding start contents past at) past at place level) =
        step_look past tag at (KeepsPages coding start contents past) (λ held. IsLawfulSense (ladder_of coding start contents past at) past at place level) pinned c in
        let here : step.pin.1 ≡ look = same_Some step.pin.1 look (sym step.is_look ∙ is) in
        let asked : (place_of_look, reads.level) ≡ (place, level) =
        ap (asked_of (place, level))
        (sym (ladder_with past [] is none
        ∙ asks_first coding (coding.has_head look.serial look.row) place_of_look (other_places dies place_of_look) look.closed reads.level reads.is_first)
        ∙ step.fact.is_asked) in
        let stays : word_of_page (page_of coding start contents past place_of_look) ≡ word_looked_at coding start contents past look =
        subst (λ (held : Look). IsSome (page_of coding start contents (past_at past held.at) (place_of_slot dies held.slot)) →
        word_of_page (page_of coding start contents past (place_of_slot dies held.slot)) ≡ word_looked_at coding start contents past held) here
        (λ some. (step.has.pages (place_of_slot dies step.pin.1.slot) refl some).word)
        (has_word (page_of coding start contents (past_at past look.at) place_of_look) word stood) in
        let fresh : HasFreshCells start.base word (page_of coding start contents past place_of_look) =
        told_words_are_fresh coding start contents past place_of_look word unaged (stays ∙ stood) in
        subst (λ (given : Place × ℤ). sensed given.1 (levels_in start.base (page_of coding start contents past given.0)) ≡ word) asked
        (ap (sensed reads.level) fresh.levels_are ∙ read.sense_is fresh.number fresh.erases)

    gave_step : (past : List Entry) (tag : Tag) (kind : Kind) → IsLawfulKind (ladder_of coding start contents past) start.base past tag kind →
        All (KeepsPages coding start contents past) (open_looks past) → AreUnaged past → look_of past at ≡ Some look →
        word_looked_at coding start contents past look ≡ Some word → GaveFirst word (senses_of coding start contents past at) →
        GaveFirst word (senses_of coding start contents (made tag kind ∷ past) at)
    gave_step past tag (Kind.Sense named place level) c pinned unaged is stood before = by_test (named == at) refl
      where
        by_test : (b : Bool) → (named == at) ≡ b →
            GaveFirst word (elim (elim b as (λ (b : Bool). Option (Place × ℤ)) [ true ↦ Some (place, level) | false ↦ None ]) as (λ (o : Option (Place × ℤ)). List (List ℕ)) [
              | Some given ↦ senses_of coding start contents past at ++ sensed given.1 (levels_in start.base (page_of coding start contents past given.0)) ∷ []
              | None ↦ senses_of coding start contents past at
            ])
        by_test true e =
            gave_more word (senses_of coding start contents past at) (sensed level (levels_in start.base (page_of coding start contents past place))) before
            (first_gives past tag place level
            (subst (λ (n : ℕ). IsSomeAnd (open_look past tag n) (λ held. IsLawfulSense (ladder_of coding start contents past n) past n place level))
            (eqb-true named at e) c) pinned unaged is stood)
        by_test false e = before
    gave_step past tag kind c pinned unaged is stood before = before

    gave : (past : List Entry) → IsLawful start contents past → AreUnaged past → look_of past at ≡ Some look →
        word_looked_at coding start contents past look ≡ Some word → GaveFirst word (senses_of coding start contents past at)
    gave [] lawful unaged is stood = tt
    gave (entry ∷ past) lawful unaged is stood =
        by_test (length past == at) refl is (λ older. gave past lawful.0 (All-tail (λ (other : Entry). IsNoAgeing other.kind) entry past unaged) older)
      where
        by_none : (option : Option (Place × ℤ)) (given : Place × ℤ → List (List ℕ)) (older : List (List ℕ)) → option ≡ None → older ≡ [] →
            GaveFirst word (elim option as (λ (o : Option (Place × ℤ)). List (List ℕ)) [ Some asked ↦ given asked | None ↦ older ])
        by_none option given older none e = rw (none, e) tt

        by_test : (b : Bool) → (length past == at) ≡ b →
            ◌≡◌ {A = Option Look} (elim b [ true ↦ look_made at entry.kind | false ↦ look_of past at ]) (Some look) →
            (look_of past at ≡ Some look → word_looked_at coding start contents past look ≡ Some word → GaveFirst word (senses_of coding start contents past at)) →
            GaveFirst word (senses_of coding start contents (entry ∷ past) at)
        by_test true e here older =
            let same : length past ≡ at = eqb-true (length past) at e in
            by_none (sense_for at entry.kind) _ (senses_of coding start contents past at) (look_senses_none at entry.kind look here)
            (none_sensed (ladder_of coding start contents) coding start contents past at lawful.0 (omega (arith, same)))
        by_test false e here older =
            let made_there : IsMadeAt past at look = look_is_made_at past at look here in
            let below = made_there.below in
            let is_at = made_there.is_at in
            let stood_before : word_looked_at coding start contents past look ≡ Some word =
            ap (λ (before : List Entry). word_of_page (page_of coding start contents before place_of_look))
            (sym (past_before entry past look.at (omega (arith, below, is_at)))) ∙ stood in
            gave_step past entry.tag entry.kind lawful.1.meets
            (pinned_pages_stay (ladder_of coding start contents) coding start contents past due lawful.0)
            (All-tail (λ (other : Entry). IsNoAgeing other.kind) entry past unaged) here stood_before (older here stood_before)

-- the past of a position is one of the same kind
pub unaged_at : (start : Start) (contents : List (Tag × List ℕ)) (past : List Entry) (newer : ℕ) → IsUnagedPast start contents past →
    IsUnagedPast start contents (drop newer past)
unaged_at start contents past newer unaged = record {
  is_written = record {
    has_named_pages = unaged.is_written.has_named_pages;
    is_lawful = lawful_at (coding_of start.base) start contents newer past unaged.is_written.is_lawful;
    write_data =
        All-drop (λ (entry : Entry). WritesData start.base.shape.bytes contents entry.tag entry.kind) newer past unaged.is_written.write_data;
  };
  reads_back = unaged.reads_back;
  no_ageing = All-drop (λ (entry : Entry). IsNoAgeing entry.kind) newer past unaged.no_ageing;
}

-- the ladder of a look of a row that held data knows the word of these data
pub ladders_know : (start : Start) (contents : List (Tag × List ℕ)) (past : List Entry) (at : ℕ) (look : Look) (data_bytes : List ℕ) →
    IsUnagedPast start contents past → look_of past at ≡ Some look →
    plain_of start.base contents (past_at past at) look.row ≡ bytes data_bytes →
    KnowsFirst ((coding_of start.base).encoded look.serial look.row data_bytes) (ladder_of (coding_of start.base) start contents past at)
ladders_know start contents past at look data_bytes unaged is plain =
    let coding : Coding = coding_of start.base in
    let older : IsUnagedPast start contents (past_at past at) = unaged_at start contents past (length past - at) unaged in
    let written : IsWrittenPast start contents (past_at past at) = older.is_written in
    let due : HasDuePages start = written.has_named_pages.has_due_pages in
    let found : HasFound start.base (past_at past at) look =
    looks_found (ladder_of coding start contents) start.base past at look unaged.is_written.is_lawful is in
    let then : word_of_page (page_of coding start contents (past_at past at) (place_of_slot start.base.shape.dies look.slot)) ≡ Some (coding.encoded look.serial look.row data_bytes) =
    rows_have_words coding start contents (IsRecoveredPage coding start contents (past_at past at)) (past_at past at) look.row due
    written.has_named_pages.rows_name_used written.is_lawful (recovered_find coding start contents (past_at past at)) found.in_rows look.slot
    look.serial data_bytes found.is_found (copies_are_recovered start contents (past_at past at) older look.row data_bytes found.in_rows plain) plain in
    let is_at : look.at ≡ at = (look_is_made_at past at look is).is_at in
    let stood : word_looked_at coding start contents past look ≡ Some (coding.encoded look.serial look.row data_bytes) =
    ap (λ (position : ℕ). word_of_page (page_of coding start contents (past_at past position) (place_of_slot start.base.shape.dies look.slot))) is_at
    ∙ then in
    let is_data : IsData start.base.shape.bytes data_bytes =
    plain_is_data start.base contents look.row data_bytes (past_at past at) written.write_data plain in
    knows start contents unaged.reads_back due at look data_bytes is_data past is
    (gave start contents unaged.reads_back due at look data_bytes is_data past unaged.is_written.is_lawful unaged.no_ageing is stood)
