-- The senses of a look, which its call made one after the other: the entries that they are, and the call's steps. None decides
-- the reply of a read.
use Rattle.std.proofs.Common.{ℕ, ◌≡◌, true, List, [], ◌∷◌, ◌++◌, ℤ, Option, None, refl, sym, ◌∙◌, append_assoc, append-nil}
use Rattle.std.specs.List.{list_all}
use Rattle.ssd_histories.specs.CallSteps.{CallStep, is_sense_of, steps_of}
use Rattle.ssd_histories.specs.Replies.{first_reply}
use Rattle.ssd_histories.specs.SerialCalls.{AreStepsFrom, entry_of}
use Rattle.ssd_geo.specs.declared.entry.Entry.{Entry}
use Rattle.ssd_geo.specs.declared.kind.Kind.{Kind}
use Rattle.ssd_geo.specs.declared.place.Place.{Place}
use Rattle.ssd_geo.specs.declared.tag.Tag.{Tag}
use Rattle.ssd_histories.specs.ServedCalls.{after_senses}
use Rattle.run_laws.proofs.MadeCalls.{one_step_more}
use Rattle.shared_lemmas.proofs.Tests.{same_number}

-- the steps of some senses, from a past on
abbrev pub sense_steps : Tag → ℕ → List (Place × ℤ) → List Entry → List CallStep
sense_steps tag at [] past = []
sense_steps tag at (sensed ∷ more) past =
    record { past = past; entry = entry_of tag (Kind.Sense at sensed.0 sensed.1) } ∷ sense_steps tag at more (entry_of tag (Kind.Sense at sensed.0 sensed.1) ∷ past)

module _ (tag : Tag) (at : ℕ) where
  pub senses_are_steps : (senses : List (Place × ℤ)) (past : List Entry) (steps : List CallStep) →
      steps_of tag past ≡ steps →
      steps_of tag (after_senses tag at senses past) ≡ steps ++ sense_steps tag at senses past
  senses_are_steps [] past steps are = are ∙ sym (append-nil steps)
  senses_are_steps (sensed ∷ more) past steps are =
      let kind : Kind = Kind.Sense at sensed.0 sensed.1 in
      let step : CallStep = record { past = past; entry = entry_of tag kind } in
      senses_are_steps more (entry_of tag kind ∷ past) (steps ++ step ∷ [])
      (one_step_more tag kind past steps are)
      ∙ append_assoc steps (step ∷ []) (sense_steps tag at more (entry_of tag kind ∷ past))

  -- each step is a sense
  pub all_senses : (senses : List (Place × ℤ)) (past : List Entry) →
      list_all (λ step. is_sense_of at step.entry.kind) (sense_steps tag at senses past) ≡ true
  all_senses [] past = refl
  all_senses (sensed ∷ more) past =
      rw (same_number at) (all_senses more (entry_of tag (Kind.Sense at sensed.0 sensed.1) ∷ past))

  -- the first step that decides a reply stands behind them
  pub decided_behind : {R : Type 0} (decided : CallStep → Option R) (senses : List (Place × ℤ))
      (past : List Entry) (steps : List CallStep) →
      ((before : List Entry) (place : Place) (level : ℤ) → decided
      (record { past = before; entry = entry_of tag (Kind.Sense at place level) }) ≡ None) →
      first_reply decided (sense_steps tag at senses past ++ steps) ≡ first_reply decided steps
  decided_behind decided [] past steps none = refl
  decided_behind decided (sensed ∷ more) past steps none =
      rw (none past sensed.0 sensed.1, first_reply)
      (decided_behind decided more (entry_of tag (Kind.Sense at sensed.0 sensed.1) ∷ past) steps none)

  -- they lead from a past to that after them
  pub senses_lead : (senses : List (Place × ℤ)) (past : List Entry) (steps : List CallStep)
      (after : List Entry) → AreStepsFrom tag (after_senses tag at senses past) steps after →
      AreStepsFrom tag past (sense_steps tag at senses past ++ steps) after
  senses_lead [] past steps after lead = lead
  senses_lead (sensed ∷ more) past steps after lead = (
    refl,
    refl,
    senses_lead more
        (entry_of tag (Kind.Sense at sensed.0 sensed.1) ∷ past) steps after lead,
  )
