-- Where the words of a channel are read from their first sense and no block was aged, each copy of a row that holds data by its
-- writes was recovered: the first sense of its look gives the very word that stood in the page.
use Rattle.std.proofs.Common.{◌≡◌, ℕ, zero, suc, ◌-◌, ◌<◌, ◌==◌, ◌&&◌, ◌||◌, nat_lt, Bool, true, false, List, [], ◌∷◌, ◌++◌, drop, length, refl, ap, sym, subst, ◌∙◌, Option, Some, None, ℤ, arith, All, IsSome}
use Rattle.std.specs.Prelude.{IsSomeAnd, IsTrue, ⊤}
use Rattle.std.proofs.lemmas.Bool.Decides.{nat_tests}
use Rattle.std.proofs.lemmas.List.Elements.{All-cons, All-nil, All-tail, All-weaker}
use Rattle.ssd_geo.specs.Cells.{sensed}
use Rattle.ssd_geo.specs.Coding.{Coding, coding_of}
use Rattle.ssd_geo.specs.Ladder.{LadderState, asks, has_answer, is_recovered, ladder_over, other_places, recovered, uncorrectable}
use Rattle.ssd_geo.specs.Stripe.{place_of_slot}
use Rattle.ssd_geo.specs.declared.base.ChannelBase.{ChannelBase}
use Rattle.ssd_geo.specs.declared.entry.Entry.{Entry}
use Rattle.ssd_geo.specs.declared.kind.Kind.{Kind}
use Rattle.ssd_geo.specs.declared.look.Look.{Look}
use Rattle.ssd_geo.specs.declared.place.Place.{Place}
use Rattle.ssd_geo.specs.declared.slot.Slot.{Slot}
use Rattle.ssd_geo.specs.declared.tag.Tag.{Tag}
use Rattle.ssd_histories.specs.History.{look_made, look_of, open_look, open_looks}
use Rattle.ssd_histories.specs.LastWrites.{IsData}
use Rattle.ssd_histories.specs.Lawful.{IsLawful, IsLawfulKind, IsLawfulLeave, IsLawfulMove, IsLawfulSense, has_fault_sense}
use Rattle.ssd_histories.specs.LookLaws.{is_rewrite, is_rewritten}
use Rattle.ssd_histories.specs.PastPages.{ladder_of, levels_in, page_of, sense_for, senses_of, word_of_page}
use Rattle.ssd_histories.specs.PinnedPages.{HasDuePages, KeepsPages}
use Rattle.ssd_histories.specs.PlainMap.{HasRecovered, IsRecoveredPage, PlainRow, bytes, copies_of, is_look_of_row, nothing, past_at, plain_of, word_looked_at}
use Rattle.ssd_histories.specs.Start.{Start, data_of}
use Rattle.ssd_histories.proofs.PinnedWords.{past_before, past_now, pinned_pages_stay}
use Rattle.ssd_histories.proofs.RewrittenRows.{copies_are_fresh}
use Rattle.ssd_histories.proofs.UsedSlots.{made}
use Rattle.recovery_laws.specs.RecoveredReads.{IsWrittenPast, WritesData}
use Rattle.recovery_laws.proofs.Pasts.{IsMadeAt, StepLook, look_is_made_at, step_look}
use Rattle.recovery_laws.proofs.RecoveredReads.{HasFound, looks_found, plain_is_data, recovered_pages_stay}
use Rattle.recovery_laws.proofs.RowWords.{has_word, rows_have_words}
use Rattle.recovery_laws.proofs.SettledLadders.{lawful_at, recovered_find}
use Rattle.run_laws.specs.FirstSenses.{IsNoAgeing, IsUnagedPast, ReadsBack, WordIsRead}
use Rattle.run_laws.proofs.FirstLadders.{asks_first, recovers_first}
use Rattle.run_laws.proofs.FreshCells.{HasFreshCells, told_words_are_fresh}
use Rattle.run_laws.proofs.LookSenses.{none_sensed}
use Rattle.std.proofs.lemmas.Bool.{eqb-true}
use Rattle.std.proofs.lemmas.Option.{same_Some}

-- senses that begin with a word, if there are any
abbrev BeginsWith : List ℕ → List (List ℕ) → Type 0
BeginsWith word [] = ⊤
BeginsWith word (sense ∷ senses) = sense ≡ word

begins_more : (word : List ℕ) (senses : List (List ℕ)) (sense : List ℕ) → BeginsWith word senses →
    (senses ≡ [] → sense ≡ word) → BeginsWith word (senses ++ sense ∷ [])
begins_more word [] sense begins first = first refl
begins_more word (older ∷ senses) sense begins first = begins

-- what a ladder asks for
abbrev place_in : Place → LadderState → Place
place_in other (asks place level) = place
place_in other (recovered rung word) = other
place_in other uncorrectable = other

abbrev level_in : ℤ → LadderState → ℤ
level_in other (asks place level) = level
level_in other (recovered rung word) = other
level_in other uncorrectable = other

not_asking : (state : LadderState) (place : Place) (level : ℤ) → state ≡ asks place level → is_recovered state ≡ true → ⊥
not_asking state place level e is_so = false_true (sym (ap is_recovered e) ∙ is_so)
  where
    false_true : false ≡ true → ⊥
    false_true f = absurd (cc)

-- what a test leaves
left : (b : Bool) (after before : PlainRow) → b ≡ false → ◌≡◌ {A = PlainRow} (elim b [ true ↦ after | false ↦ before ]) before
left true after before e = absurd (cc)
left false after before e = refl

-- a look senses nothing
pub look_senses_none : (at : ℕ) (kind : Kind) (look : Look) → look_made at kind ≡ Some look → sense_for at kind ≡ None
look_senses_none at (Kind.Look row found closed) look is = refl
look_senses_none at kind look is = absurd (cc)

-- nor does it change what a row holds by writes and trims
look_writes_none : (base : ChannelBase) (contents : List (Tag × List ℕ)) (past : List Entry) (tag : Tag) (kind : Kind) (at row : ℕ)
    (look : Look) → look_made at kind ≡ Some look → plain_of base contents (made tag kind ∷ past) row ≡ plain_of base contents past row
look_writes_none base contents past tag (Kind.Look named found closed) at row look is = refl
look_writes_none base contents past tag kind at row look is = absurd (cc)

-- a ladder that recovered has an answer
answered : (state : LadderState) (word : Option (List ℕ)) (fault : Bool) → HasRecovered state word → (has_answer state || fault) ≡ true
answered (asks place level) word fault has = absurd has
answered (recovered rung found) word fault has = refl
answered uncorrectable word fault has = absurd has

module _ (start : Start) (contents : List (Tag × List ℕ)) (reads : ReadsBack start.base) (due : HasDuePages start) where
  abbrev coding : Coding
  coding = coding_of start.base

  abbrev dies : ℕ
  dies = start.base.shape.dies

  abbrev IsUnaged : List Entry → Type 0
  IsUnaged past = All (λ entry. IsNoAgeing entry.kind) past

  abbrev word_for : Look → List ℕ → List ℕ
  word_for look data_bytes = coding.encoded look.serial look.row data_bytes

  abbrev Good : List Entry → ℕ → Type 0
  Good past at = IsRecoveredPage coding start contents past at

  -- the senses of a look begin with the word that stood in its page
  module _ (at : ℕ) (look : Look) (data_bytes : List ℕ) (is_data : IsData start.base.shape.bytes data_bytes) where
    abbrev word : List ℕ
    word = word_for look data_bytes

    abbrev KeepsHere : List Entry → Look → Type 0
    KeepsHere past held =
        IsSome (page_of coding start contents (past_at past held.at) (place_of_slot dies held.slot)) →
        word_of_page (page_of coding start contents past (place_of_slot dies held.slot)) ≡ word_looked_at coding start contents past held

    first_sense_is : (past : List Entry) (tag : Tag) (named : ℕ) (place : Place) (level : ℤ) → named ≡ at →
        IsSomeAnd (open_look past tag named) (λ held. IsLawfulSense (ladder_of coding start contents past named) past named place level) →
        All (KeepsPages coding start contents past) (open_looks past) → IsUnaged past → look_of past at ≡ Some look →
        word_looked_at coding start contents past look ≡ Some word → senses_of coding start contents past at ≡ [] →
        sensed level (levels_in start.base (page_of coding start contents past place)) ≡ word
    first_sense_is past tag named place level same c pinned unaged is stood none =
        let step : StepLook past named (KeepsPages coding start contents past) (λ held. IsLawfulSense (ladder_of coding start contents past named) past named place level) =
        step_look past tag named (KeepsPages coding start contents past) (λ held. IsLawfulSense (ladder_of coding start contents past named) past named place level) pinned c in
        let own : look_of past named ≡ Some look = ap (look_of past) same ∙ is in
        let here : step.pin.1 ≡ look = same_Some step.pin.1 look (sym step.is_look ∙ own) in
        let slot_place : Place = place_of_slot dies look.slot in
        let first : ladder_of coding start contents past named ≡ asks (place_of_slot dies look.slot) reads.level =
        ap (λ (option : Option Look). ladder_over coding dies option (senses_of coding start contents past named)) own
        ∙ ap (λ (senses : List (List ℕ)). ladder_over coding dies (Some look) senses) (ap (senses_of coding start contents past) same ∙ none)
        ∙ asks_first coding (coding.has_head look.serial look.row) (place_of_slot dies look.slot) (other_places dies (place_of_slot dies look.slot)) look.closed reads.level reads.is_first in
        let asked : asks (place_of_slot dies look.slot) reads.level ≡ asks place level = sym first ∙ step.fact.is_asked in
        let places : place_of_slot dies look.slot ≡ place = ap (place_in place) asked in
        let levels : reads.level ≡ level = ap (level_in level) asked in
        let keeps : KeepsPages coding start contents past step.pin = step.has in
        let stays : word_of_page (page_of coding start contents past (place_of_slot dies look.slot)) ≡ word_looked_at coding start contents past look =
        subst (λ (held : Look). KeepsHere past held) here
        (λ some. (keeps.pages (place_of_slot dies step.pin.1.slot) refl some).word)
        (has_word (page_of coding start contents (past_at past look.at) (place_of_slot dies look.slot)) word stood) in
        let fresh : HasFreshCells start.base word (page_of coding start contents past (place_of_slot dies look.slot)) =
        told_words_are_fresh coding start contents past (place_of_slot dies look.slot) word unaged (stays ∙ stood) in
        let read : WordIsRead start.base reads.level look.serial look.row data_bytes = reads.words look.serial look.row data_bytes is_data in
        subst (λ (p : Place). sensed level (levels_in start.base (page_of coding start contents past p)) ≡ word) places
        (subst (λ (l : ℤ). sensed l (levels_in start.base (page_of coding start contents past (place_of_slot dies look.slot))) ≡ word) levels
        (ap (sensed reads.level) fresh.levels_are ∙ read.sense_is fresh.number fresh.erases))

    sense_step : (past : List Entry) (tag : Tag) (kind : Kind) → IsLawfulKind (ladder_of coding start contents past) start.base past tag kind →
        All (KeepsPages coding start contents past) (open_looks past) → IsUnaged past → look_of past at ≡ Some look →
        word_looked_at coding start contents past look ≡ Some word → BeginsWith word (senses_of coding start contents past at) →
        BeginsWith word (senses_of coding start contents (made tag kind ∷ past) at)
    sense_step past tag (Kind.Sense named place level) c pinned unaged is stood before = by_test (named == at) refl
      where
        by_test : (b : Bool) → (named == at) ≡ b →
            BeginsWith word (elim (elim b as (λ (b : Bool). Option (Place × ℤ)) [ true ↦ Some (place, level) | false ↦ None ]) as (λ (o : Option (Place × ℤ)). List (List ℕ)) [
              | Some given ↦ senses_of coding start contents past at ++ sensed given.1 (levels_in start.base (page_of coding start contents past given.0)) ∷ []
              | None ↦ senses_of coding start contents past at
            ])
        by_test true e =
            begins_more word (senses_of coding start contents past at) (sensed level (levels_in start.base (page_of coding start contents past place))) before
            (first_sense_is past tag named place level (eqb-true named at e) c pinned unaged is stood)
        by_test false e = before
    sense_step past tag kind c pinned unaged is stood before = before

    senses_begin : (past : List Entry) → IsLawful start contents past → IsUnaged past → look_of past at ≡ Some look →
        word_looked_at coding start contents past look ≡ Some word → BeginsWith word (senses_of coding start contents past at)
    senses_begin [] lawful unaged is stood = tt
    senses_begin (entry ∷ past) lawful unaged is stood =
        by_test (length past == at) refl is (λ older. senses_begin past lawful.0 (All-tail (λ (other : Entry). IsNoAgeing other.kind) entry past unaged) older)
      where
        by_none : (option : Option (Place × ℤ)) (given : Place × ℤ → List (List ℕ)) (older : List (List ℕ)) → option ≡ None → older ≡ [] →
            BeginsWith word (elim option as (λ (o : Option (Place × ℤ)). List (List ℕ)) [ Some asked ↦ given asked | None ↦ older ])
        by_none option given older none e = rw (none, e) tt

        by_test : (b : Bool) → (length past == at) ≡ b →
            ◌≡◌ {A = Option Look} (elim b [ true ↦ look_made at entry.kind | false ↦ look_of past at ]) (Some look) →
            (look_of past at ≡ Some look → word_looked_at coding start contents past look ≡ Some word → BeginsWith word (senses_of coding start contents past at)) →
            BeginsWith word (senses_of coding start contents (entry ∷ past) at)
        by_test true e here older =
            let same : length past ≡ at = eqb-true (length past) at e in
            by_none (sense_for at entry.kind) _ (senses_of coding start contents past at) (look_senses_none at entry.kind look here)
            (none_sensed (ladder_of coding start contents) coding start contents past at lawful.0 (omega (arith, same)))
        by_test false e here older =
            let made_there : IsMadeAt past at look = look_is_made_at past at look here in
            let below = made_there.below in
            let is_at = made_there.is_at in
            let stood_before : word_looked_at coding start contents past look ≡ Some word =
            ap (λ (before : List Entry). word_of_page (page_of coding start contents before (place_of_slot dies look.slot)))
            (sym (past_before entry past look.at (omega (arith, below, is_at)))) ∙ stood in
            sense_step past entry.tag entry.kind lawful.1.meets
            (pinned_pages_stay (ladder_of coding start contents) coding start contents past due lawful.0)
            (All-tail (λ (other : Entry). IsNoAgeing other.kind) entry past unaged) here stood_before (older here stood_before)

    -- so where its ladder recovered a word, it is this one
    page_is_recovered : (past : List Entry) → look_of past at ≡ Some look → word_looked_at coding start contents past look ≡ Some word →
        BeginsWith word (senses_of coding start contents past at) → IsTrue (is_recovered (ladder_of coding start contents past at)) →
        Good past at
    page_is_recovered past is stood begins has =
        subst (λ (option : Option Look). IsSomeAnd option
        (λ held. HasRecovered (ladder_of coding start contents past at) (word_looked_at coding start contents past held))) (sym is)
        (by_senses (senses_of coding start contents past at) refl begins)
      where
        ladder_with : (senses : List (List ℕ)) → senses_of coding start contents past at ≡ senses →
            ladder_of coding start contents past at ≡ ladder_over coding dies (Some look) senses
        ladder_with senses e =
            ap (λ (option : Option Look). ladder_over coding dies option (senses_of coding start contents past at)) is
            ∙ ap (λ (given : List (List ℕ)). ladder_over coding dies (Some look) given) e

        by_senses : (senses : List (List ℕ)) → senses_of coding start contents past at ≡ senses → BeginsWith word senses →
            HasRecovered (ladder_of coding start contents past at) (word_looked_at coding start contents past look)
        by_senses [] e first =
            let asking : ladder_of coding start contents past at ≡ asks (place_of_slot dies look.slot) reads.level =
            ladder_with [] e
            ∙ asks_first coding (coding.has_head look.serial look.row) (place_of_slot dies look.slot) (other_places dies (place_of_slot dies look.slot)) look.closed reads.level reads.is_first in
            absurd (not_asking (ladder_of coding start contents past at) (place_of_slot dies look.slot) reads.level asking has)
        by_senses (sense ∷ rest) e first =
            let read : WordIsRead start.base reads.level look.serial look.row data_bytes = reads.words look.serial look.row data_bytes is_data in
            let found : ladder_of coding start contents past at ≡ recovered 0 word =
            ladder_with (sense ∷ rest) e
            ∙ ap (λ (given : List ℕ). ladder_over coding dies (Some look) (given ∷ rest)) first
            ∙ recovers_first coding (coding.has_head look.serial look.row) (place_of_slot dies look.slot) (other_places dies (place_of_slot dies look.slot)) look.closed reads.level word word rest
            reads.is_first read.is_found read.has_head in
            subst (λ (state : LadderState). HasRecovered state (word_looked_at coding start contents past look)) (sym found) stood

  -- what a row holds by its writes and trims is as it was at a look, where it wasn't written or trimmed since
  plain_since : (past : List Entry) (at row : ℕ) (look : Look) → look_of past at ≡ Some look → is_rewritten row at past ≡ false →
      plain_of start.base contents past row ≡ plain_of start.base contents (past_at past at) row
  plain_since [] at row look is none = absurd (cc)
  plain_since (entry ∷ past) at row look is none = by_test (length past == at) refl is (plain_since past at row look)
    where
      parts : (a b : Bool) → (a || b) ≡ false → (a ≡ false) × (b ≡ false)
      parts true b e = absurd (cc)
      parts false b e = (refl, e)

      not_rewrite : (a b : Bool) → (a && b) ≡ false → b ≡ true → a ≡ false
      not_rewrite true b e is_true = absurd (grind arith)
      not_rewrite false b e is_true = refl

      unwritten : (tag : Tag) (kind : Kind) → is_rewrite row kind ≡ false →
          plain_of start.base contents (made tag kind ∷ past) row ≡ plain_of start.base contents past row
      unwritten tag (Kind.Write named slot) other = left (named == row) (bytes (data_of contents tag)) (plain_of start.base contents past row) other
      unwritten tag (Kind.Trim named) other = left (named == row) nothing (plain_of start.base contents past row) other
      unwritten tag kind other = refl

      by_test : (b : Bool) → (length past == at) ≡ b →
          ◌≡◌ {A = Option Look} (elim b [ true ↦ look_made at entry.kind | false ↦ look_of past at ]) (Some look) →
          (look_of past at ≡ Some look → is_rewritten row at past ≡ false →
          plain_of start.base contents past row ≡ plain_of start.base contents (past_at past at) row) →
          plain_of start.base contents (entry ∷ past) row ≡ plain_of start.base contents (past_at (entry ∷ past) at) row
      by_test true e here before_it =
          let same : length past ≡ at = eqb-true (length past) at e in
          look_writes_none start.base contents past entry.tag entry.kind at row look here
          ∙ ap (λ (before : List Entry). plain_of start.base contents before row)
          (sym (ap (past_at (entry ∷ past)) (sym same) ∙ past_now entry past))
      by_test false e here before_it =
          let below = (look_is_made_at past at look here).below in
          let both = parts (is_rewrite row entry.kind && nat_lt at (length past)) (is_rewritten row at past) none in
          let before : nat_lt at (length past) ≡ true = grind (arith, nat_tests) in
          unwritten entry.tag entry.kind (not_rewrite (is_rewrite row entry.kind) (nat_lt at (length past)) both.0 before)
          ∙ before_it here both.1
          ∙ ap (λ (older : List Entry). plain_of start.base contents older row) (sym (past_before entry past at (omega (arith, below))))

  -- a page that was recovered stays so after one more entry
  carry : (entry : Entry) (past : List Entry) → IsLawful start contents (entry ∷ past) → (at : ℕ) → Good past at → Good (entry ∷ past) at
  carry entry past lawful at good =
      (subst (λ (before : List Entry). at < length before → IsLawfulLeave (ladder_of coding start contents before at) before at →
      (Good (entry ∷ past) at → Good before at) × (Good before at → Good (entry ∷ past) at)) (past_now entry past)
      (λ low settled. recovered_pages_stay coding start contents (entry ∷ past) (length past) at lawful low settled)
      (by_look (look_of past at) refl good).0 (by_look (look_of past at) refl good).1).1 good
    where
      by_look : (option : Option Look) → look_of past at ≡ option →
          IsSomeAnd option (λ look. HasRecovered (ladder_of coding start contents past at) (word_looked_at coding start contents past look)) →
          (at < length past) × IsLawfulLeave (ladder_of coding start contents past at) past at
      by_look None e has = absurd has
      by_look (Some look) e has = (
        (look_is_made_at past at look e).below,
        answered (ladder_of coding start contents past at) (word_looked_at coding start contents past look) (has_fault_sense past at) has,
      )

  -- each copy of a row that holds data was recovered
  abbrev pub CopiesHold : List Entry → Type 0
  CopiesHold past =
      (row : ℕ) (data_bytes : List ℕ) → row < start.base.shape.rows → plain_of start.base contents past row ≡ bytes data_bytes →
      All (Good past) (copies_of past row)

  module _ (entry : Entry) (past : List Entry) (written : IsWrittenPast start contents (entry ∷ past)) (unaged : IsUnaged past)
      (older : (newer : ℕ) → CopiesHold (drop newer past)) where
    carried : (row : ℕ) → All (Good past) (copies_of past row) → All (Good (entry ∷ past)) (copies_of past row)
    carried row all = All-weaker (Good past) (Good (entry ∷ past)) (carry entry past written.is_lawful) (copies_of past row) all

    kept : (row : ℕ) (data_bytes : List ℕ) → row < start.base.shape.rows → plain_of start.base contents past row ≡ bytes data_bytes →
        All (Good (entry ∷ past)) (copies_of past row)
    kept row data_bytes low plain = carried row (older 0 row data_bytes low plain)

    -- the look of a copy found the page of the row's data
    copied : (tag : Tag) (at : ℕ) (slot : Slot) → IsLawful start contents (made tag (Kind.Move at slot) ∷ past) →
        (row : ℕ) (data_bytes : List ℕ) → row < start.base.shape.rows → plain_of start.base contents past row ≡ bytes data_bytes →
        (step : StepLook past at (KeepsPages coding start contents past) (λ look. IsLawfulMove (ladder_of coding start contents past at) start.base past look slot)) →
        step.pin.1.row ≡ row → Good past at
    copied tag at slot lawful row data_bytes low plain step same =
        let look : Look = step.pin.1 in
        let fresh : StepLook past at (λ pin. Unit {0}) (λ held. is_rewritten held.row held.at past ≡ false) =
        step_look past tag at (λ pin. Unit {0}) (λ held. is_rewritten held.row held.at past ≡ false) (λ k d within. tt)
        (copies_are_fresh (ladder_of coding start contents) start.base past tag at slot written.has_named_pages.rows_name_used lawful) in
        let one : fresh.pin.1 ≡ step.pin.1 = same_Some fresh.pin.1 step.pin.1 (sym fresh.is_look ∙ step.is_look) in
        let not_since : is_rewritten step.pin.1.row at past ≡ false =
        subst (λ (position : ℕ). is_rewritten step.pin.1.row position past ≡ false) step.is_at
        (subst (λ (held : Look). is_rewritten held.row held.at past ≡ false) one fresh.fact) in
        let found : HasFound start.base (past_at past at) step.pin.1 =
        looks_found (ladder_of coding start contents) start.base past at step.pin.1 lawful.0 step.is_look in
        let plain_then : plain_of start.base contents (past_at past at) step.pin.1.row ≡ bytes data_bytes =
        sym (plain_since past at step.pin.1.row step.pin.1 step.is_look not_since)
        ∙ ap (plain_of start.base contents past) same ∙ plain in
        let newer : ℕ = length past - at in
        let then : word_of_page (page_of coding start contents (past_at past at) (place_of_slot dies step.pin.1.slot)) ≡ Some (word_for step.pin.1 data_bytes) =
        rows_have_words coding start contents (Good (past_at past at)) (past_at past at) step.pin.1.row due
        written.has_named_pages.rows_name_used (lawful_at coding start contents (length past - at) past lawful.0)
        (recovered_find coding start contents (past_at past at)) found.in_rows step.pin.1.slot step.pin.1.serial data_bytes found.is_found
        (older (length past - at) step.pin.1.row data_bytes found.in_rows plain_then) plain_then in
        let stood : word_looked_at coding start contents past step.pin.1 ≡ Some (word_for step.pin.1 data_bytes) =
        ap (λ (position : ℕ). word_of_page (page_of coding start contents (past_at past position) (place_of_slot dies step.pin.1.slot))) step.is_at
        ∙ then in
        let is_data : IsData start.base.shape.bytes data_bytes =
        plain_is_data start.base contents row data_bytes past
        (All-tail (λ (other : Entry). WritesData start.base.shape.bytes contents other.tag other.kind) entry past written.write_data) plain in
        page_is_recovered at step.pin.1 data_bytes is_data past step.is_look stood
        (senses_begin at step.pin.1 data_bytes is_data past lawful.0 unaged step.is_look stood)
        step.fact.may_copy.is_recovered

    copies_by : (tag : Tag) (kind : Kind) → IsLawful start contents (made tag kind ∷ past) → (row : ℕ) (data_bytes : List ℕ) →
        row < start.base.shape.rows → plain_of start.base contents (made tag kind ∷ past) row ≡ bytes data_bytes →
        All (Good (entry ∷ past)) (copies_of (made tag kind ∷ past) row)
    copies_by tag (Kind.Write named slot) lawful row data_bytes low plain = by_test (named == row) plain
      where
        by_test : (b : Bool) →
            (elim b as (λ (c : Bool). PlainRow) [ true ↦ bytes (data_of contents tag) | false ↦ plain_of start.base contents past row ]) ≡ bytes data_bytes →
            All (Good (entry ∷ past)) (elim b as (λ (c : Bool). List ℕ) [ true ↦ [] | false ↦ copies_of past row ])
        by_test true gives = All-nil (Good (entry ∷ past))
        by_test false gives = kept row data_bytes low gives
    copies_by tag (Kind.Trim named) lawful row data_bytes low plain = by_test (named == row) plain
      where
        by_test : (b : Bool) →
            (elim b as (λ (c : Bool). PlainRow) [ true ↦ nothing | false ↦ plain_of start.base contents past row ]) ≡ bytes data_bytes →
            All (Good (entry ∷ past)) (copies_of past row)
        by_test true gives = absurd (cc)
        by_test false gives = kept row data_bytes low gives
    copies_by tag (Kind.Move at slot) lawful row data_bytes low plain =
        subst (λ (option : Option Look). All (Good (entry ∷ past))
        (elim (is_look_of_row row option) as (λ (c : Bool). List ℕ) [ true ↦ at ∷ copies_of past row | false ↦ copies_of past row ]))
        (sym step.is_look) (by_test (step.pin.1.row == row) refl)
      where
        step : StepLook past at (KeepsPages coding start contents past) (λ look. IsLawfulMove (ladder_of coding start contents past at) start.base past look slot)
        step =
            step_look past tag at (KeepsPages coding start contents past) (λ look. IsLawfulMove (ladder_of coding start contents past at) start.base past look slot)
            (pinned_pages_stay (ladder_of coding start contents) coding start contents past due lawful.0) lawful.1.meets

        by_test : (b : Bool) → (step.pin.1.row == row) ≡ b →
            All (Good (entry ∷ past)) (elim b as (λ (c : Bool). List ℕ) [ true ↦ at ∷ copies_of past row | false ↦ copies_of past row ])
        by_test true e =
            All-cons (Good (entry ∷ past)) at (copies_of past row)
            (carry entry past written.is_lawful at
            (copied tag at slot lawful row data_bytes low plain step (eqb-true step.pin.1.row row e)))
            (kept row data_bytes low plain)
        by_test false e = kept row data_bytes low plain
    copies_by tag kind lawful row data_bytes low plain = kept row data_bytes low plain

  older_is_written : (entry : Entry) (past : List Entry) → IsWrittenPast start contents (entry ∷ past) → IsWrittenPast start contents past
  older_is_written entry past written = record {
    has_named_pages = written.has_named_pages;
    is_lawful = written.is_lawful.0;
    write_data = All-tail (λ (other : Entry). WritesData start.base.shape.bytes contents other.tag other.kind) entry past written.write_data;
  }

  all_copies : (past : List Entry) → IsWrittenPast start contents past → IsUnaged past → (newer : ℕ) → CopiesHold (drop newer past)
  all_copies [] written unaged zero = λ row data_bytes low plain. All-nil (Good [])
  all_copies [] written unaged (suc newer) = λ row data_bytes low plain. All-nil (Good [])
  all_copies (entry ∷ past) written unaged zero =
      let before = all_copies past (older_is_written entry past written) (All-tail (λ (other : Entry). IsNoAgeing other.kind) entry past unaged) in
      λ row data_bytes low plain.
      copies_by entry past written (All-tail (λ (other : Entry). IsNoAgeing other.kind) entry past unaged) before entry.tag entry.kind
      written.is_lawful row data_bytes low plain
  all_copies (entry ∷ past) written unaged (suc newer) =
      all_copies past (older_is_written entry past written) (All-tail (λ (other : Entry). IsNoAgeing other.kind) entry past unaged) newer

pub copies_are_recovered : (start : Start) (contents : List (Tag × List ℕ)) (past : List Entry) → IsUnagedPast start contents past →
    (row : ℕ) (data_bytes : List ℕ) → row < start.base.shape.rows → plain_of start.base contents past row ≡ bytes data_bytes →
    All (IsRecoveredPage (coding_of start.base) start contents past) (copies_of past row)
copies_are_recovered start contents past unaged =
    all_copies start contents unaged.reads_back unaged.is_written.has_named_pages.has_due_pages past unaged.is_written unaged.no_ageing 0
