-- The worked collects, and why the others are none.
use Rattle.std.proofs.Common.{ℕ, ◌≡◌, Bool, true, false, List, [], ◌∷◌, ◌++◌, take, drop, get_or, refl, sym, ap, subst, ◌∙◌, lit<, le→leb}
use Rattle.std.specs.Prelude.{◌||◌, not, is_none, ◌==◌}
use Rattle.std.proofs.lemmas.Bool.{false≢true}
use Rattle.ssd_geo.specs.Noise.{noise_word}
use Rattle.ssd_geo.specs.Ladder.{LadderState}
use Rattle.ssd_histories.specs.CallSteps.{CallStep, is_leave_of, position_of, steps_of}
use Rattle.ssd_histories.specs.History.{past_of}
use Rattle.ssd_histories.specs.HistoryExamples.{AreWithinLimits, freed_history, idle_history, small_channel, step, tag_of, weak_on_die_0}
use Rattle.ssd_histories.specs.Rounds.{is_idle_note, is_note}
use Rattle.ssd_histories.specs.SerialCalls.{AreStepsFrom, IsSerialCopy, RoundEnd, SerialCollect, SerialCopies, SerialRound, collects_again, copy_faults, decides, decides_collect, erase_faults, erased, erases, finds_none, goes_on, is_idle, picks, retires, stays, takes}
use Rattle.ssd_geo.specs.declared.base.ChannelBase.{ChannelBase}
use Rattle.ssd_geo.specs.declared.entry.Entry.{Entry}
use Rattle.ssd_geo.specs.declared.kind.Kind.{Kind}
use Rattle.ssd_geo.specs.declared.tag.Tag.{Tag}
use Rattle.past_examples.specs.CollectExamples.{IsCollectAfter, IsNoCollectAfter, ends_with_work, idle_before_copy, ladder_in_history, worn_collect}
use Rattle.past_examples.proofs.GrownCollects.{collect_copies}

-- a step of a call in a history
abbrev step_at : ℕ → List Entry → ℕ → CallStep
step_at call history i = get_or (steps_of (tag_of 0 call) (past_of history)) i (record { past = []; entry = step 0 0 (Kind.Trim 0) })

pub idle_collect : IsCollectAfter [] 0 0 idle_history
idle_collect within = is_idle {between = []} (takes refl (finds_none refl)) refl

freed_copy : (within : AreWithinLimits) → IsSerialCopy (ladder_in_history [] within) (small_channel [] within) (tag_of 0 5) (past_of (take 6 freed_history)) (past_of (take 10 freed_history)) false false
unfolding noise_word
freed_copy within = record {
  steps = take 4 (drop 1 (steps_of (tag_of 0 5) (past_of freed_history)));
  are_steps = (refl, refl, (refl, refl, (refl, refl, (refl, refl, refl))));
  has_live = lit< tt;
  is_copy = record {
    look = step_at 5 freed_history 1;
    is_copy = record {
      ending = step_at 5 freed_history 3;
      leave = step_at 5 freed_history 4;
      is_list = record { senses = take 1 (drop 2 (steps_of (tag_of 0 5) (past_of freed_history))); are_steps = refl; finds_page = refl; are_senses = refl; is_left = refl };
      ends = refl;
    };
    is_first = refl;
  };
  ends_is = refl;
  fault_is = refl;
}

pub erasing_collect : IsCollectAfter [] 5 5 freed_history
erasing_collect within =
    decides {end = erased} (picks {sb = 0} refl (goes_on {between = past_of (take 10 freed_history)} (freed_copy within) (erases refl refl))) refl

worn_copy : (within : AreWithinLimits) → IsSerialCopy (ladder_in_history weak_on_die_0 within) (small_channel weak_on_die_0 within) (tag_of 0 12) (past_of (take 28 worn_collect)) (past_of (take 32 worn_collect)) true false
unfolding noise_word
worn_copy within = record {
  steps = take 4 (steps_of (tag_of 0 12) (past_of worn_collect));
  are_steps = (refl, refl, (refl, refl, (refl, refl, (refl, refl, refl))));
  has_live = lit< tt;
  is_copy = record {
    look = step_at 12 worn_collect 0;
    is_copy = record {
      ending = step_at 12 worn_collect 2;
      leave = step_at 12 worn_collect 3;
      is_list = record { senses = take 1 (drop 1 (steps_of (tag_of 0 12) (past_of worn_collect))); are_steps = refl; finds_page = refl; are_senses = refl; is_left = refl };
      ends = refl;
    };
    is_first = refl;
  };
  ends_is = refl;
  fault_is = refl;
}

pub staying_collect : IsCollectAfter weak_on_die_0 28 12 worn_collect
staying_collect within = is_idle {between = past_of (take 32 worn_collect)} (takes refl (stays (worn_copy within))) refl

-- whether a past's last entry is no note, or an idle one
abbrev ends_well : List Entry → Bool
ends_well [] = true
ends_well (entry ∷ past) = not (is_note entry.kind) || is_idle_note entry.kind

leave_ends_well : (at : ℕ) (kind : Kind) → is_leave_of at kind ≡ true → (not (is_note kind) || is_idle_note kind) ≡ true
leave_ends_well at (Kind.Leave named) e = refl
leave_ends_well at kind e = absurd (false≢true e)

idle_ends_well : (kind : Kind) → is_idle_note kind ≡ true → (not (is_note kind) || is_idle_note kind) ≡ true
idle_ends_well (Kind.Note free victim live pins garbage) e = e
idle_ends_well kind e = absurd (false≢true e)

-- the last of some steps is the past's last entry
last_step : (tag : Tag) (before after : List Entry) (steps : List CallStep) (last : CallStep) →
    AreStepsFrom tag before (steps ++ last ∷ []) after → after ≡ last.entry ∷ last.past
last_step tag before after [] last made = sym made.2 ∙ ap (λ (past : List Entry). last.entry ∷ past) (sym made.0)
last_step tag before after (first ∷ steps) last made = last_step tag (first.entry ∷ before) after steps last made.2

module _ (ladder : List Entry → ℕ → LadderState) (base : ChannelBase) (tag : Tag) where
  copy_ends_well : (before after : List Entry) (ends fault : Bool) → IsSerialCopy ladder base tag before after ends fault →
      ends_well after ≡ true
  copy_ends_well before after ends fault copy =
      let made = copy.is_copy.is_copy in
      let list = made.is_list in
      let whole : AreStepsFrom tag before (((copy.is_copy.look ∷ list.senses) ++ made.ending ∷ []) ++ made.leave ∷ []) after =
      subst (λ (steps : List CallStep). AreStepsFrom tag before steps after) list.are_steps copy.are_steps in
      ap ends_well (last_step tag before after ((copy.is_copy.look ∷ list.senses) ++ made.ending ∷ []) made.leave whole)
      ∙ leave_ends_well (position_of copy.is_copy.look) made.leave.entry.kind list.is_left

  copies_end_well : {before after : List Entry} {end : RoundEnd} → SerialCopies ladder base tag before after end →
      decides_collect end ≡ true → ends_well after ≡ true
  copies_end_well (goes_on copy rest) done = copies_end_well rest done
  copies_end_well (stays copy) done = absurd (false≢true done)
  copies_end_well {before} {after} (copy_faults copy) done = copy_ends_well before after true true copy
  copies_end_well (erases victim live) done = refl
  copies_end_well (retires victim live) done = refl
  copies_end_well (erase_faults victim live) done = refl
  copies_end_well (finds_none victim) done = absurd (false≢true done)

  round_ends_well : {before after : List Entry} {end : RoundEnd} → SerialRound ladder base tag before after end →
      decides_collect end ≡ true → ends_well after ≡ true
  round_ends_well (picks may copying) done = copies_end_well copying done
  round_ends_well (takes may_not copying) done = copies_end_well copying done

  collect_ends_well : {before after : List Entry} → SerialCollect ladder base tag before after → ends_well after ≡ true
  collect_ends_well (decides round done) = round_ends_well round done
  collect_ends_well (is_idle {note = note} round idle) = idle_ends_well note idle
  collect_ends_well (collects_again round is_note not_idle rest) = collect_ends_well rest

pub not_idle_is_none : IsNoCollectAfter [] 5 5 ends_with_work
not_idle_is_none within collect =
    false≢true (collect_ends_well (ladder_in_history [] within) (small_channel [] within) (tag_of 0 5) collect)

-- the worn channel's victim has two live pages
pub no_copy_is_none : IsNoCollectAfter weak_on_die_0 28 12 idle_before_copy
no_copy_is_none within collect =
    le→leb 31 29
    (collect_copies (ladder_in_history weak_on_die_0 within) (small_channel weak_on_die_0 within) (tag_of 0 12)
    (record {
      no_pick = refl;
      is_victim = λ none. false≢true (ap is_none none);
      has_live = λ none. false≢true (ap (λ n. n == 0) none);
    }) collect)
