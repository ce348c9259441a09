-- Where the history has no room for a call's next entry, the call stops there, and tells how many entries the history has.
use Rattle.std.proofs.Common.{◌≡◌, ℕ, List, length, refl, sym, subst, ap, ◌∙◌, inl, inr}
use Rattle.std.specs.Prelude.{Result, Ok, Err}
use Rattle.chan_calls.specs.Caller.{CallerView, HasLookRoom, HasStepRoom}
use Rattle.chan_calls.specs.Collecting.{MakesErase, MakesLive, MakesNote, MakesPick}
use Rattle.chan_calls.specs.Stepping.{IsStepped, MakesLook, MakesWrite}
use Rattle.chan_state.specs.declared.answers.PickAnswer.{PickAnswer}
use Rattle.chan_state.specs.declared.answers.PickAnswer.TheVariants as pick
use Rattle.collector.specs.Collects.{MakesCollectFor}
use Rattle.collector.specs.Emptying.{EndsRound, OfBase, by_copy, by_erase, having_seen, no_victim, stops}
use Rattle.collector.specs.Rounds.{FollowsPick, MakesRoundFor}
use Rattle.collector.specs.Writes.{MakesWriteFor}
use Rattle.collector.specs.declared.replies.RoundReply.{RoundReply}
use Rattle.refresh.specs.Refreshes.{MakesRefreshFor}
use Rattle.ssd_geo.specs.declared.entry.Entry.{Entry}
use Rattle.ssd_geo.specs.declared.stop.StepStop.{StepStop}
use Rattle.ssd_geo.specs.declared.tag.Tag.{Tag}
use Rattle.ssd_histories.specs.Start.{Start}
use Rattle.actor_calls.specs.Ended.{TellsLength}

-- a step that was refused
pub step_tells : {A : Type 0} (has_room : ℕ → List Entry → Type 0) (makes : List Entry → A → List Entry → Type 0) (tag : Tag)
    (old new : CallerView) (stop : StepStop) → IsStepped has_room makes tag old new (Err stop) → TellsLength stop new.seen
step_tells has_room makes tag old new (StepStop.HistoryFull told) made = made.3 ∙ ap (length {A = Entry}) (sym made.4)
step_tells has_room makes tag old new StepStop.Memory made = tt

-- the look of a refresh
pub refresh_tells : (start : Start) (contents : List (Tag × List ℕ)) (caller : CallerView) (tag : Tag) (row : ℕ)
    (after : List Entry) (stop : StepStop) → MakesRefreshFor start contents caller tag row after (Err stop) →
    TellsLength stop after
refresh_tells start contents caller tag row after stop made =
    step_tells HasLookRoom (MakesLook caller.shape tag row) tag caller (record caller { seen = after }) stop made

module _ (start : Start) (contents : List (Tag × List ℕ)) (caller : CallerView) (tag : Tag) where
  -- a step among those of a round
  at_step : {A : Type 0} (has_room : ℕ → List Entry → Type 0) (makes : List Entry → A → List Entry → Type 0)
      (before after : List Entry) (why stop : StepStop) → why ≡ stop →
      IsStepped has_room makes tag (having_seen caller before) (having_seen caller after) (Err why) → TellsLength stop after
  at_step has_room makes before after why stop same made =
      subst (λ (s : StepStop). TellsLength s after) same
      (step_tells has_room makes tag (having_seen caller before) (having_seen caller after) why made)

  end_tells : (sb : ℕ) (before after : List Entry) (result : Result RoundReply StepStop) (stop : StepStop) →
      EndsRound start contents caller tag sb before after result → result ≡ Err stop → TellsLength stop after
  end_tells sb before after result stop (by_copy copies ended is) e = absurd (cc)
  end_tells sb before after result stop (no_victim looks is) e = absurd (cc)
  end_tells sb before after result stop (by_erase emptied (Ok answer) looks tried is) e = absurd (cc)
  end_tells sb before after result stop (by_erase emptied (Err why) looks tried is) e =
      at_step HasStepRoom (MakesErase (OfBase start.base) tag sb) emptied after why stop (cc) tried
  end_tells sb before after result stop (stops why looks is) e =
      at_step HasLookRoom (MakesLive (OfBase start.base) caller.shape tag sb) before after why stop (cc) looks

  follow_tells : (answer : PickAnswer) (before after : List Entry) (stop : StepStop) →
      FollowsPick start contents caller tag answer before after (Err stop) → TellsLength stop after
  follow_tells (pick.Busy sb) before after stop empties = end_tells sb empties.copied after (Err stop) stop empties.ends refl
  follow_tells (pick.Picked sb) before after stop empties = end_tells sb empties.copied after (Err stop) stop empties.ends refl
  follow_tells pick.ReadOnly before after stop left = let e = left.1 in absurd (cc)
  follow_tells pick.NoGarbage before after stop left = let e = left.1 in absurd (cc)

  round_tells : (before after : List Entry) (stop : StepStop) →
      MakesRoundFor start contents caller tag before after (Err stop) → TellsLength stop after
  round_tells before after stop (inl tried) =
      at_step HasStepRoom (MakesPick (OfBase start.base) tag) before after stop stop refl tried
  round_tells before after stop (inr picked) = follow_tells picked.answer picked.picked after stop picked.follows

  -- a write and a collect
  pub write_tells : (row : ℕ) (before after : List Entry) (stop : StepStop) →
      MakesWriteFor start contents caller tag row before after (Err stop) → TellsLength stop after
  write_tells row before after stop made = elim made.last [
    | inl tried ↦ at_step HasStepRoom (MakesWrite (OfBase start.base) tag row) made.between after stop stop refl tried
    | inr room ↦ round_tells room.needed after stop room.round
  ]

  pub collect_tells : (before after : List Entry) (stop : StepStop) →
      MakesCollectFor start contents caller tag before after (Err stop) → TellsLength stop after
  collect_tells before after stop made = elim made.last [
    | inl round ↦ round_tells made.between after stop round
    | inr noted ↦ at_step HasStepRoom (MakesNote tag) noted.left after stop stop refl noted.notes
  ]
