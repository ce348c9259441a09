-- Once the ladder of a look has an answer, or a sense of the look failed, no entry of a lawful past changes what the
-- ladder has come to.
use Rattle.std.proofs.Common.{◌≡◌, ℕ, zero, suc, ◌-◌, ◌<◌, ◌≤◌, ◌==◌, ◌||◌, Bool, true, false, List, [], ◌∷◌, ◌++◌, drop, length, length-drop, refl, ap, sym, subst, ◌∙◌, Option, Some, None, arith}
use Rattle.std.specs.Prelude.{◌↔◌, IsSomeAnd, IsTrue, not, ℤ}
use Rattle.std.proofs.lemmas.Bool.Decides.{nat_tests}
use Rattle.ssd_geo.specs.Cells.{sensed}
use Rattle.ssd_geo.specs.Coding.{Coding}
use Rattle.ssd_geo.specs.Ladder.{LadderState, asks, has_answer, is_recovered, ladder_over, recovered, uncorrectable, word_recovered}
use Rattle.ssd_geo.specs.Stripe.{place_of_slot}
use Rattle.ssd_geo.specs.declared.entry.Entry.{Entry}
use Rattle.ssd_geo.specs.declared.kind.Kind.{Kind}
use Rattle.ssd_geo.specs.declared.look.Look.{Look}
use Rattle.ssd_geo.specs.declared.place.Place.{Place}
use Rattle.ssd_geo.specs.declared.tag.Tag.{Tag}
use Rattle.ssd_histories.specs.History.{look_of, open_look}
use Rattle.ssd_histories.specs.Lawful.{IsLawfulBy, IsLawfulKind, IsLawfulSense, has_fault_sense, is_fault_sense_of}
use Rattle.ssd_histories.specs.PastPages.{ladder_of, levels_in, page_of, senses_of, word_of_page}
use Rattle.ssd_histories.specs.PlainMap.{HasRecovered, IsRecoveredPage, past_at, word_looked_at}
use Rattle.ssd_histories.specs.Start.{Start}
use Rattle.ssd_histories.proofs.UsedSlots.{made, of_some}
use Rattle.ssd_histories.proofs.PinnedWords.{past_before}
use Rattle.recovery_laws.proofs.Pasts.{IsMadeAt, look_is_made_at, older_look}

-- a ladder that asks for a sense hasn't settled where no sense failed
asks_on : (state : LadderState) (fault : Bool) (place : Place) (level : ℤ) → state ≡ asks place level → IsTrue (not fault) → IsTrue (has_answer state || fault) → ⊥
asks_on state fault place level asked no_fault settled = neither (has_answer state) fault (ap has_answer asked) no_fault settled
  where
    neither : (a f : Bool) → a ≡ false → not f ≡ true → (a || f) ≡ true → ⊥
    neither true f e g h = grind arith
    neither false true e g h = grind arith
    neither false false e g h = grind arith

still : (a more fault : Bool) → (a || fault) ≡ true → (a || (more || fault)) ≡ true
still true more fault h = refl
still false true fault h = refl
still false false fault h = h

module _ (coding : Coding) (start : Start) (contents : List (Tag × List ℕ)) where
  -- what the ladder of a look has come to stays
  abbrev pub IsSettled : List Entry → ℕ → Type 0
  IsSettled past at = IsTrue (has_answer (ladder_of coding start contents past at) || has_fault_sense past at)

  -- one more entry adds no sense to a look that has settled
  senses_settled : (past : List Entry) (tag : Tag) (kind : Kind) (at : ℕ) → IsLawfulKind (ladder_of coding start contents past) start.base past tag kind →
      IsSettled past at → senses_of coding start contents (made tag kind ∷ past) at ≡ senses_of coding start contents past at
  senses_settled past tag (Kind.Sense named place level) at c settled = by_test (named == at) refl
    where
      same : (n : ℕ) → (n == at) ≡ true → n ≡ at
      same n e = grind (arith, nat_tests)

      asked : IsLawfulSense (ladder_of coding start contents past named) past named place level
      asked = of_some (open_look past tag named) (λ look. IsLawfulSense (ladder_of coding start contents past named) past named place level) (λ look sense. sense) c

      not_of_it : named ≡ at → ⊥
      not_of_it e =
          asks_on (ladder_of coding start contents past named) (has_fault_sense past named) place level asked.is_asked asked.no_fault
          (subst (IsSettled past) (sym e) settled)

      by_test : (b : Bool) → (named == at) ≡ b →
          ◌≡◌ {A = List (List ℕ)} (elim (elim b as (λ (b : Bool). Option (Place × ℤ)) [ true ↦ Some (place, level) | false ↦ None ]) [
            | Some given ↦ senses_of coding start contents past at ++ sensed given.1 (levels_in start.base (page_of coding start contents past given.0)) ∷ []
            | None ↦ senses_of coding start contents past at
          ]) (senses_of coding start contents past at)
      by_test true e = absurd (not_of_it (same named e))
      by_test false e = refl
  senses_settled past tag kind at c settled = refl

  -- an entry that adds no sense to a look leaves what its ladder has come to
  pub ladder_unsensed : (past : List Entry) (tag : Tag) (kind : Kind) (at : ℕ) → at < length past →
      senses_of coding start contents (made tag kind ∷ past) at ≡ senses_of coding start contents past at →
      ladder_of coding start contents (made tag kind ∷ past) at ≡ ladder_of coding start contents past at
  ladder_unsensed past tag kind at below same =
      ap (λ (look : Option Look). ladder_over coding start.base.shape.dies look (senses_of coding start contents (made tag kind ∷ past) at))
      (older_look (made tag kind) past at below)
      ∙ ap (ladder_over coding start.base.shape.dies (look_of past at)) same

  -- so no entry does where the look has settled
  pub ladder_settled : (past : List Entry) (tag : Tag) (kind : Kind) (at : ℕ) → IsLawfulKind (ladder_of coding start contents past) start.base past tag kind →
      at < length past → IsSettled past at → ladder_of coding start contents (made tag kind ∷ past) at ≡ ladder_of coding start contents past at
  ladder_settled past tag kind at c below settled = ladder_unsensed past tag kind at below (senses_settled past tag kind at c settled)

  -- and it stays settled
  stays_settled : (past : List Entry) (tag : Tag) (kind : Kind) (at : ℕ) → IsLawfulKind (ladder_of coding start contents past) start.base past tag kind →
      at < length past → IsSettled past at → IsSettled (made tag kind ∷ past) at
  stays_settled past tag kind at c below settled =
      subst (λ (state : LadderState). IsTrue (has_answer state || has_fault_sense (made tag kind ∷ past) at))
      (sym (ladder_settled past tag kind at c below settled))
      (still (has_answer (ladder_of coding start contents past at)) (is_fault_sense_of at kind) (has_fault_sense past at) settled)

  -- the ladders of a lawful past, by the entries before each
  abbrev pub IsLawfulHere : List Entry → Type 0
  IsLawfulHere past = IsLawfulBy (ladder_of coding start contents) start.base past

  -- what the ladder of a look had come to at an older position, where it had settled there, is what it has come to
  pub record HasStayed (past : List Entry) (at : ℕ) (state : LadderState) : Type 0 where
    pub stays : ladder_of coding start contents past at ≡ state
    pub settled : IsSettled past at

  has_stayed : (newer : ℕ) (past : List Entry) (at : ℕ) → IsLawfulHere past → at < length (drop newer past) → IsSettled (drop newer past) at →
      HasStayed past at (ladder_of coding start contents (drop newer past) at)
  has_stayed zero past at lawful below settled = record { stays = refl; settled = settled }
  has_stayed (suc newer) [] at lawful below settled = absurd (omega arith)
  has_stayed (suc newer) (entry ∷ past) at lawful below settled =
      let before : HasStayed past at (ladder_of coding start contents (drop newer past) at) = has_stayed newer past at lawful.0 below settled in
      let longer : at < length past = below_drop newer past at below in
      record {
        stays = ladder_settled past entry.tag entry.kind at lawful.1.meets longer before.settled ∙ before.stays;
        settled = stays_settled past entry.tag entry.kind at lawful.1.meets longer before.settled;
      }
    where
      below_drop : (n : ℕ) (xs : List Entry) (k : ℕ) → k < length (drop n xs) → k < length xs
      below_drop n xs k lt = omega (arith, length-drop n xs)

  pub ladder_stays : (past : List Entry) (position at : ℕ) → IsLawfulHere past → at < length (past_at past position) → IsSettled (past_at past position) at →
      ladder_of coding start contents past at ≡ ladder_of coding start contents (past_at past position) at
  ladder_stays past position at lawful below settled = (has_stayed (length past - position) past at lawful below settled).stays

  -- where a fact of positions says that the pages of the looks there are recovered, a ladder that has recovered such a
  -- page has found the word that stood there
  abbrev pub FindWords : (ℕ → Type 0) → List Entry → Type 0
  FindWords Fact past =
      (at : ℕ) (look : Look) → Fact at → look_of past at ≡ Some look → IsTrue (is_recovered (ladder_of coding start contents past at)) →
      word_looked_at coding start contents past look ≡ Some (word_recovered (ladder_of coding start contents past at))

  -- as that the pages are recovered
  pub recovered_find : (past : List Entry) → FindWords (IsRecoveredPage coding start contents past) past
  recovered_find past at look fact is recovered_here =
      found (ladder_of coding start contents past at) (word_looked_at coding start contents past look)
      (subst (λ (option : Option Look). IsSomeAnd option
      (λ held. HasRecovered (ladder_of coding start contents past at) (word_looked_at coding start contents past held))) is fact)
    where
      found : (state : LadderState) (word : Option (List ℕ)) → HasRecovered state word → word ≡ Some (word_recovered state)
      found (asks place level) word has = absurd has
      found (recovered rung held) word has = has
      found uncorrectable word has = absurd has

  -- it says so at the positions before
  pub find_before : (Fact : ℕ → Type 0) (past : List Entry) (tag : Tag) (kind : Kind) → IsLawfulKind (ladder_of coding start contents past) start.base past tag kind →
      FindWords Fact (made tag kind ∷ past) → FindWords Fact past
  find_before Fact past tag kind c find at look fact is recovered_there =
      let here : IsMadeAt past at look = look_is_made_at past at look is in
      let same : ladder_of coding start contents (made tag kind ∷ past) at ≡ ladder_of coding start contents past at =
      ladder_settled past tag kind at c here.below (answered (ladder_of coding start contents past at) (has_fault_sense past at) recovered_there) in
      let word : word_looked_at coding start contents (made tag kind ∷ past) look ≡ Some (word_recovered (ladder_of coding start contents (made tag kind ∷ past) at)) =
      find at look fact (older_look (made tag kind) past at here.below ∙ is)
      (subst (λ (state : LadderState). IsTrue (is_recovered state)) (sym same) recovered_there) in
      ap (λ (before : List Entry). word_of_page (page_of coding start contents before (place_of_slot start.base.shape.dies look.slot)))
      (sym (past_before (made tag kind) past look.at (below_or_at look.at at (length past) here.is_at here.below)))
      ∙ word ∙ ap (λ (state : LadderState). Some (word_recovered state)) same
    where
      below_or_at : (a b n : ℕ) → a ≡ b → b < n → a ≤ n
      below_or_at a b n e lt = omega arith

      answered : (state : LadderState) (fault : Bool) → IsTrue (is_recovered state) → IsTrue (has_answer state || fault)
      answered (asks place level) fault is = absurd (grind arith)
      answered (recovered rung held) fault is = refl
      answered uncorrectable fault is = refl

  pub find_at : (Fact : ℕ → Type 0) (newer : ℕ) (past : List Entry) → IsLawfulHere past → FindWords Fact past → FindWords Fact (drop newer past)
  find_at Fact zero past lawful find = find
  find_at Fact (suc newer) [] lawful find = find
  find_at Fact (suc newer) (entry ∷ past) lawful find =
      find_at Fact newer past lawful.0 (find_before Fact past entry.tag entry.kind lawful.1.meets find)

  pub lawful_at : (newer : ℕ) (past : List Entry) → IsLawfulHere past → IsLawfulHere (drop newer past)
  lawful_at zero past lawful = lawful
  lawful_at (suc newer) [] lawful = lawful
  lawful_at (suc newer) (entry ∷ past) lawful = lawful_at newer past lawful.0

  -- the look at an older position, and the past there, are as they were
  look_over : (newer : ℕ) (past : List Entry) (at : ℕ) → at < length (drop newer past) → look_of past at ≡ look_of (drop newer past) at
  look_over zero past at below = refl
  look_over (suc newer) [] at below = refl
  look_over (suc newer) (entry ∷ past) at below =
      older_look entry past at (omega (arith, below, length-drop newer past)) ∙ look_over newer past at below

  past_over : (newer : ℕ) (past : List Entry) (at : ℕ) → at ≤ length (drop newer past) → past_at past at ≡ past_at (drop newer past) at
  past_over zero past at below = refl
  past_over (suc newer) [] at below = refl
  past_over (suc newer) (entry ∷ past) at below =
      past_before entry past at (omega (arith, below, length-drop newer past)) ∙ past_over newer past at below

  module _ (newer : ℕ) (past : List Entry) (at : ℕ) (lawful : IsLawfulHere past) (below : at < length (drop newer past)) (settled : IsSettled (drop newer past) at) where
    -- whether a page was recovered, by the look, the ladder and the word at hand
    abbrev IsRecoveredBy : Option Look → LadderState → List Entry → Type 0
    IsRecoveredBy option state before = IsSomeAnd option (λ look. HasRecovered state (word_looked_at coding start contents before look))

    same_looks : look_of past at ≡ look_of (drop newer past) at
    same_looks = look_over newer past at below

    same_states : ladder_of coding start contents past at ≡ ladder_of coding start contents (drop newer past) at
    same_states = (has_stayed newer past at lawful below settled).stays

    same_words : (look : Look) → look.at ≡ at → word_looked_at coding start contents past look ≡ word_looked_at coding start contents (drop newer past) look
    same_words look is =
        ap (λ (before : List Entry). word_of_page (page_of coding start contents before (place_of_slot start.base.shape.dies look.slot)))
        (past_over newer past look.at (at_most look.at at (length (drop newer past)) is below))
      where
        at_most : (a b n : ℕ) → a ≡ b → b < n → a ≤ n
        at_most a b n e lt = omega arith

    by_look : (option : Option Look) (state : LadderState) → look_of (drop newer past) at ≡ option →
        IsRecoveredBy option state past ↔ IsRecoveredBy option state (drop newer past)
    by_look None state is = (λ h. h, λ h. h)
    by_look (Some look) state is =
        let same : word_looked_at coding start contents past look ≡ word_looked_at coding start contents (drop newer past) look =
        same_words look (look_is_made_at (drop newer past) at look is).is_at in
        (subst (HasRecovered state) same, subst (HasRecovered state) (sym same))

    -- so whether a page is recovered stays as it was once its look has settled
    pub recovered_stays : IsRecoveredPage coding start contents past at ↔ IsRecoveredPage coding start contents (drop newer past) at
    recovered_stays =
        subst (λ (option : Option Look). IsRecoveredBy option (ladder_of coding start contents past at) past ↔ IsRecoveredPage coding start contents (drop newer past) at)
        (sym same_looks)
        (subst (λ (state : LadderState). IsRecoveredBy (look_of (drop newer past) at) state past ↔ IsRecoveredPage coding start contents (drop newer past) at)
        (sym same_states) (by_look (look_of (drop newer past) at) (ladder_of coding start contents (drop newer past) at) refl))
