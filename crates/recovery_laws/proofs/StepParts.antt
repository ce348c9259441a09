-- The steps of a call are parts of the past, each lawful where it stands.
use Rattle.std.proofs.Common.{◌≡◌, ℕ, suc, ◌-◌, ◌<◌, Bool, true, false, List, [], ◌∷◌, ◌++◌, drop, length, ap, ◌∙◌, arith, All}
use Rattle.std.proofs.lemmas.List.Elements.{All-nil, All-push, All-weaker}
use Rattle.ssd_geo.specs.Ladder.{LadderState}
use Rattle.ssd_geo.specs.declared.base.ChannelBase.{ChannelBase}
use Rattle.ssd_geo.specs.declared.entry.Entry.{Entry}
use Rattle.ssd_geo.specs.declared.tag.Tag.{Tag}
use Rattle.ssd_histories.specs.CallSteps.{CallStep, position_of, steps_of}
use Rattle.ssd_histories.specs.History.{is_same_tag, look_made, look_of}
use Rattle.ssd_histories.specs.Lawful.{IsLawfulBy, IsLawfulKind}
use Rattle.ssd_histories.specs.PlainMap.{past_at}
use Rattle.ssd_histories.proofs.PinnedWords.{past_before, past_now}
use Rattle.recovery_laws.proofs.Pasts.{newest_look, older_look}

module _ (ladder : List Entry → ℕ → LadderState) (base : ChannelBase) where
  -- a step stands in a past: with the entries before it, and lawfully; and the look of its position is its own
  pub record IsPart (past : List Entry) (step : CallStep) : Type 0 where
    pub below : position_of step < length past
    pub before : past_at past (position_of step) ≡ step.past
    pub until : past_at past (suc (position_of step)) ≡ step.entry ∷ step.past
    pub look : look_of past (position_of step) ≡ look_made (position_of step) step.entry.kind
    pub is_lawful : IsLawfulKind (ladder step.past) base step.past step.entry.tag step.entry.kind

  newest_part : (entry : Entry) (past : List Entry) → IsLawfulKind (ladder past) base past entry.tag entry.kind →
      IsPart (entry ∷ past) (record { past = past; entry = entry })
  newest_part entry past lawful = record {
    below = omega arith;
    before = past_now entry past;
    until = whole (entry ∷ past);
    look = newest_look entry past;
    is_lawful = lawful;
  }
    where
      whole : (entries : List Entry) → past_at entries (length entries) ≡ entries
      whole entries = ap (λ (n : ℕ). drop n entries) (none (length entries))
        where
          none : (n : ℕ) → n - n ≡ 0
          none n = omega arith

  older_part : (entry : Entry) (past : List Entry) (step : CallStep) → IsPart past step → IsPart (entry ∷ past) step
  older_part entry past step part = record {
    below = omega (arith, part.below);
    before = past_before entry past (position_of step) (omega (arith, part.below)) ∙ part.before;
    until = past_before entry past (suc (position_of step)) part.below ∙ part.until;
    look = older_look entry past (position_of step) part.below ∙ part.look;
    is_lawful = part.is_lawful;
  }

  pub steps_are_parts : (tag : Tag) (past : List Entry) → IsLawfulBy ladder base past → All (IsPart past) (steps_of tag past)
  steps_are_parts tag [] lawful = All-nil (IsPart [])
  steps_are_parts tag (entry ∷ past) lawful =
      by_tag (is_same_tag tag entry.tag)
      (All-weaker (IsPart past) (IsPart (entry ∷ past)) (older_part entry past) (steps_of tag past) (steps_are_parts tag past lawful.0))
    where
      by_tag : (same : Bool) → All (IsPart (entry ∷ past)) (steps_of tag past) →
          All (IsPart (entry ∷ past)) (elim same [ true ↦ steps_of tag past ++ record { past = past; entry = entry } ∷ [] | false ↦ steps_of tag past ])
      by_tag true older =
          All-push (IsPart (entry ∷ past)) (steps_of tag past) (record { past = past; entry = entry }) older (newest_part entry past lawful.1.meets)
      by_tag false older = older
