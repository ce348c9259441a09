-- Where a round stopped among others: for want of a step's room, or for want of a look's room once it picked a victim, looked
-- at a page or found a victim.
use Rattle.std.proofs.Common.{ℕ, ◌≡◌, ◌+◌, ◌*◌, ◌≤◌, ◌&&◌, ◌||◌, nat_le, Bool, true, false, List, [], ◌∷◌, ◌++◌, length, Option, refl, sym, ap, subst, ◌∙◌, inl, inr, arith}
use Rattle.std.specs.Prelude.{◌⊎◌, Err, Ok, Result, is_some, not}
use Rattle.std.specs.List.{list_any}
use Rattle.std.proofs.lemmas.Bool.{and_from, lt-leb, not_from_false, or_left, or_right}
use Rattle.std.proofs.lemmas.List.Folds.{list_any-append}
use Rattle.calls_among_others.specs.StepsAmong.{AreStepsAmong, HasCome}
use Rattle.calls_among_others.proofs.AmongCopies.{came, copies_among}
use Rattle.calls_among_others.proofs.AmongSteps.{came_then, late_has}
use Rattle.chan_calls.specs.Caller.{CallerView, HasLookRoom, HasStepRoom}
use Rattle.chan_calls.specs.declared.copy_reply.CopyReply.{CopyReply}
use Rattle.chan_state.specs.declared.answers.EraseAnswer.{EraseAnswer}
use Rattle.chan_state.specs.declared.answers.PickAnswer.{PickAnswer}
use Rattle.chan_state.specs.declared.answers.PickAnswer.TheVariants as pick
use Rattle.collector.specs.Emptying.{CopiesLive, CopiesPages, EmptiesFor, EndsRound, IsToErase, LooksLive, by_copy, by_erase, having_seen, no_victim, none_yet, one_more, result_of_erase, stops}
use Rattle.collector.specs.Rounds.{FollowsPick, IsToPick, MakesRoundFor}
use Rattle.collector.specs.declared.replies.RoundReply.{RoundReply}
use Rattle.race_runs.specs.RaceEnds.{has_picked_or_looked}
use Rattle.ssd_geo.specs.declared.entry.Entry.{Entry}
use Rattle.ssd_geo.specs.declared.kind.Kind.{Kind}
use Rattle.ssd_geo.specs.declared.row.Row.{Row}
use Rattle.ssd_geo.specs.declared.stop.StepStop.{StepStop}
use Rattle.ssd_geo.specs.declared.tag.Tag.{Tag}
use Rattle.ssd_histories.specs.CallSteps.{CallStep, is_pick, late_pasts}
use Rattle.ssd_histories.specs.History.{is_same_tag, open_looks}
use Rattle.ssd_histories.specs.HistoryRoom.{has_look_room, has_step_room}
use Rattle.ssd_histories.specs.Replies.{row_looked_at}
use Rattle.ssd_histories.specs.Room.{victim_of}
use Rattle.ssd_histories.specs.SerialCalls.{entry_of}
use Rattle.ssd_histories.specs.Start.{Start}
use Rattle.ssd_histories.proofs.SameTags.{same_tag}

-- the length that a stop tells
abbrev pub told_by : {A : Type 0} → Result A StepStop → ℕ
told_by (Ok answer) = 0
told_by (Err (StepStop.HistoryFull told)) = told
told_by (Err StepStop.Memory) = 0

-- no room, as a caller and as a history tells it
no_step : (limit caller_limit entries looks : ℕ) → caller_limit ≡ limit → (entries + (256 * looks + 1) ≤ caller_limit → ⊥) →
    nat_le (entries + 256 * looks + 1) limit ≡ false
no_step limit caller_limit entries looks same none = lt-leb (entries + 256 * looks + 1) limit (omega (arith, same, none))

no_look : (limit caller_limit entries looks : ℕ) → caller_limit ≡ limit → (entries + 256 * (looks + 1) ≤ caller_limit → ⊥) →
    nat_le (entries + 256 * (looks + 1)) limit ≡ false
no_look limit caller_limit entries looks same none = lt-leb (entries + 256 * (looks + 1)) limit (omega (arith, same, none))

module _ (start : Start) (caller_limit : ℕ) (same : caller_limit ≡ start.limit) where
  pub step_lacks : (past : List Entry) → (HasStepRoom caller_limit past → ⊥) → not (has_step_room start.limit past) ≡ true
  step_lacks past none =
      not_from_false (has_step_room start.limit past)
      (no_step start.limit caller_limit (length past) (length (open_looks past)) same none)

  pub look_lacks : (past : List Entry) → (HasLookRoom caller_limit past → ⊥) → not (has_look_room start.limit past) ≡ true
  look_lacks past none =
      not_from_false (has_look_room start.limit past)
      (no_look start.limit caller_limit (length past) (length (open_looks past)) same none)

-- an entry of the call that picks or looks
abbrev shows : Tag → Entry → Bool
shows tag entry = is_same_tag tag entry.tag && (is_pick entry.kind || is_some (row_looked_at entry.kind))

-- what stands in a past stands in each past to which others came, and after steps
shown_later : (tag : Tag) (others before : List Entry) → has_picked_or_looked tag before ≡ true →
    has_picked_or_looked tag (others ++ before) ≡ true
shown_later tag others before has =
    list_any-append (shows tag) others before ∙ or_right (list_any (shows tag) others) (list_any (shows tag) before) has

shown_came : (actor : ℕ) (tag : Tag) (before after : List Entry) → HasCome actor before after →
    has_picked_or_looked tag before ≡ true → has_picked_or_looked tag after ≡ true
shown_came actor tag before after come has =
    subst (λ (past : List Entry). has_picked_or_looked tag past ≡ true) (sym come.after_is) (shown_later tag come.others before has)

shown_steps : (tag : Tag) (before after : List Entry) (steps : List CallStep) → AreStepsAmong tag before steps after →
    has_picked_or_looked tag before ≡ true → has_picked_or_looked tag after ≡ true
shown_steps tag before after [] come has = shown_came tag.actor tag before after come has
shown_steps tag before after (step ∷ steps) made has =
    shown_steps tag (step.entry ∷ step.past) after steps made.2
    (shown_later tag (step.entry ∷ []) step.past (shown_came tag.actor tag before step.past made.0 has))

-- the newest entry shows it
shown_now : (tag : Tag) (entry : Entry) (past : List Entry) → entry.tag ≡ tag →
    (is_pick entry.kind || is_some (row_looked_at entry.kind)) ≡ true → has_picked_or_looked tag (entry ∷ past) ≡ true
shown_now tag entry past own is =
    or_left (shows tag entry) (list_any (shows tag) past)
    (and_from (is_same_tag tag entry.tag) (is_pick entry.kind || is_some (row_looked_at entry.kind))
    (subst (λ (other : Tag). is_same_tag tag other ≡ true) (sym own) (same_tag tag)) is)

module _ (start : Start) (contents : List (Tag × List ℕ)) (caller : CallerView) (tag : Tag) (entries : ℕ)
    (same : caller.limit ≡ start.limit) where
  abbrev full : StepStop
  full = StepStop.HistoryFull entries

  -- where a round that began on a past stopped
  pub data StopsRound (before after : List Entry) : Type 0 where
    at_step : not (has_step_room start.limit after) ≡ true → entries ≡ length after → StopsRound before after
    at_look : not (has_look_room start.limit after) ≡ true → entries ≡ length after → has_picked_or_looked tag after ≡ true
        → StopsRound before after
    at_victim : not (has_look_room start.limit after) ≡ true → entries ≡ length after → HasCome tag.actor before after
        → list_any (λ past. is_some (victim_of start.base past)) (late_pasts tag.actor after) ≡ true → StopsRound before after

  -- what is known where the victim is to be emptied: the call picked it, or it was there and no one of the actor came since
  abbrev KnowsVictim : List Entry → List Entry → Type 0
  KnowsVictim before picked =
      (has_picked_or_looked tag picked ≡ true)
      ⊎ HasCome tag.actor before picked × (is_some (victim_of start.base picked) ≡ true)

  module _ (sb : ℕ) (before picked : List Entry) (knows : KnowsVictim before picked) where
    -- a copy shows that the call looked
    copy_shows : (past after : List Entry) (reply : CopyReply) → CopiesLive start contents caller tag sb past after reply →
        has_picked_or_looked tag after ≡ true
    copy_shows past after reply page =
        let found = page.finds.3.0 in
        let now : List Entry = page.finds.0 in
        let made =
        copies_among start contents (having_seen caller page.looked) tag page.look now after reply
        (record { at_is = found.0; seen_is = found.3 }) page.copies in
        let listed = made.is_copy.is_list in
        let steps =
        subst (λ (list : List CallStep). AreStepsAmong tag now list after) listed.are_steps made.are_steps in
        let entry : Entry =
        entry_of tag (Kind.Look page.look.row (Row.Page page.look.slot page.look.serial) page.look.closed) in
        shown_steps tag (entry ∷ now) after (listed.senses ++ (made.is_copy.ending ∷ []) ++ made.is_copy.leave ∷ []) steps.2
        (shown_now tag entry now refl refl)

    -- after some copies the call looked, or nothing was done yet
    copied_shows : (copied : List Entry) → CopiesPages start contents caller tag sb picked copied →
        (has_picked_or_looked tag copied ≡ true) ⊎ (copied ≡ picked)
    copied_shows copied none_yet = inr refl
    copied_shows copied (one_more {between = between} {reply = reply} copies page goes) = inl (copy_shows between copied reply page)

    look_stops : (copied after : List Entry) → CopiesPages start contents caller tag sb picked copied →
        LooksLive start.base caller tag sb copied after (Err full) → StopsRound before after
    look_stops copied after copies tried =
        let now : List Entry = tried.0 in
        let come = came (having_seen caller copied) tag now tried.1 in
        let lacks = look_lacks start caller.limit same now tried.2 in
        subst (StopsRound before) (sym tried.4)
        (elim (copied_shows copied copies) [
          | inl shown ↦ at_look lacks tried.3 (shown_came tag.actor tag copied now come shown)
          | inr none ↦
              let come_on : HasCome tag.actor picked now = subst (λ (past : List Entry). HasCome tag.actor past now) none come in
              elim knows [
                | inl shown ↦ at_look lacks tried.3 (shown_came tag.actor tag picked now come_on shown)
                | inr there ↦
                    at_victim lacks tried.3 (came_then tag.actor before picked now there.0 come_on)
                    (late_has tag.actor (λ past. is_some (victim_of start.base past)) picked now come_on there.1)
              ]
        ])

    erase_stops : (emptied after : List Entry) (erasing : Result EraseAnswer StepStop) →
        IsToErase start.base caller tag sb emptied after erasing → Err full ≡ result_of_erase sb erasing → StopsRound before after
    erase_stops emptied after (Ok answer) tried is = absurd (cc)
    erase_stops emptied after (Err (StepStop.HistoryFull told)) tried is =
        let told_is : entries ≡ told = ap {B = ℕ} (λ (result : Result RoundReply StepStop). told_by result) is in
        subst (StopsRound before) (sym tried.4) (at_step (step_lacks start caller.limit same tried.0 tried.2) (told_is ∙ tried.3))
    erase_stops emptied after (Err StepStop.Memory) tried is = absurd (cc)

    end_stops : (copied after : List Entry) → CopiesPages start contents caller tag sb picked copied →
        (result : Result RoundReply StepStop) → result ≡ Err full → EndsRound start contents caller tag sb copied after result →
        StopsRound before after
    end_stops copied after copies result stop (by_copy page ends is) = absurd (cc)
    end_stops copied after copies result stop (no_victim looks is) = absurd (cc)
    end_stops copied after copies result stop (by_erase emptied erasing looks tried is) =
        erase_stops emptied after erasing tried (sym stop ∙ is)
    end_stops copied after copies result stop (stops (StepStop.HistoryFull told) looks is) =
        let told_is : told ≡ entries =
        ap {B = ℕ} (λ (one : Result RoundReply StepStop). told_by one) (sym is ∙ stop) in
        look_stops copied after copies
        (subst (λ (n : ℕ). LooksLive start.base caller tag sb copied after (Err (StepStop.HistoryFull n))) told_is looks)
    end_stops copied after copies result stop (stops StepStop.Memory looks is) = absurd (cc)

    pub empties_stop : (after : List Entry) → EmptiesFor start contents caller tag sb picked after (Err full) → StopsRound before after
    empties_stop after empties = end_stops empties.copied after empties.copies (Err full) refl empties.ends

  -- a step that was refused
  pub pick_stops : (before after : List Entry) → IsToPick start.base caller tag before after (Err full) → StopsRound before after
  pick_stops before after tried =
      subst (StopsRound before) (sym tried.4) (at_step (step_lacks start caller.limit same tried.0 tried.2) tried.3)

  follows_stop : (before picked after : List Entry) (answer : PickAnswer) → IsToPick start.base caller tag before picked (Ok answer) →
      FollowsPick start contents caller tag answer picked after (Err full) → StopsRound before after
  follows_stop before picked after (pick.Busy sb) tried follows =
      let now : List Entry = tried.0 in
      let come = came (having_seen caller before) tag now tried.1 in
      let here : picked ≡ now = tried.3.0 in
      empties_stop sb before picked
      (inr (
        subst (HasCome tag.actor before) (sym here) come,
        subst (λ (past : List Entry). is_some (victim_of start.base past) ≡ true) (sym here)
            (ap {B = Bool} (λ (victim : Option ℕ). is_some victim) tried.3.1),
      )) after follows
  follows_stop before picked after pick.ReadOnly tried follows = absurd (cc)
  follows_stop before picked after pick.NoGarbage tried follows = absurd (cc)
  follows_stop before picked after (pick.Picked sb) tried follows =
      empties_stop sb before picked
      (inl
      (subst (λ (past : List Entry). has_picked_or_looked tag past ≡ true) (sym tried.3.0)
      (shown_now tag (entry_of tag (Kind.Pick sb)) tried.0 refl refl))) after follows

  pub round_stops : (before after : List Entry) → MakesRoundFor start contents caller tag before after (Err full) →
      StopsRound before after
  round_stops before after (inl tried) = pick_stops before after tried
  round_stops before after (inr picked) =
      follows_stop before picked.picked after picked.answer picked.picks picked.follows
