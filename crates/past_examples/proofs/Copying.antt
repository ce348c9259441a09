-- The copies of a worked run: which entries of a call they are.
use Rattle.std.proofs.Common.{ℕ, ◌+◌, ◌≡◌, ◌<◌, Bool, true, false, List, [], ◌∷◌, ◌++◌, take, drop, get_or}
use Rattle.std.specs.List.{list_all}
use Rattle.ssd_histories.specs.CallSteps.{CallStep, is_leave_of, is_look_of_page, is_sense_of, position_of}
use Rattle.ssd_histories.specs.Copies.{is_copy_end}
use Rattle.ssd_histories.specs.History.{past_of}
use Rattle.ssd_histories.specs.HistoryExamples.{AreWithinLimits, small_channel, step, tag_of}
use Rattle.ssd_histories.specs.Room.{live_of_victim}
use Rattle.ssd_histories.specs.Rounds.{IsVictimCopy, ends_round, has_fault, is_first_live}
use Rattle.ssd_histories.specs.SerialCalls.{AreStepsFrom, IsSerialCopy}
use Rattle.ssd_geo.specs.declared.base.ChannelBase.{ChannelBase}
use Rattle.ssd_geo.specs.declared.kind.Kind.{Kind}
use Rattle.past_examples.specs.WorkedRuns.{WorkedRun, ladder_on, steps_in}

-- the channel of a worked run as it begins
abbrev pub base_of : WorkedRun → AreWithinLimits → ChannelBase
base_of worked within = small_channel worked.weak within

-- a step of a call in a worked run
abbrev pub step_at : ℕ → WorkedRun → ℕ → CallStep
step_at call worked i = get_or (steps_in call worked) i (record { past = []; entry = step 0 0 (Kind.Trim 0) })

-- four steps of a call, from one of them on: a look, a sense, what became of it, and the leave
abbrev pub four_from : ℕ → WorkedRun → ℕ → List CallStep
four_from call worked i = take 4 (drop i (steps_in call worked))

module _ (call : ℕ) (worked : WorkedRun) (i : ℕ) (within : AreWithinLimits) where
  -- they are a copy of the victim's first live page
  pub copy_from : four_from call worked i ≡ (step_at call worked i ∷ step_at call worked (i + 1) ∷ []) ++ (step_at call worked (i + 2) ∷ []) ++ step_at call worked (i + 3) ∷ [] →
      is_look_of_page (step_at call worked i).entry.kind ≡ true →
      list_all (λ step. is_sense_of (position_of (step_at call worked i)) step.entry.kind) (step_at call worked (i + 1) ∷ []) ≡ true →
      is_leave_of (position_of (step_at call worked i)) (step_at call worked (i + 3)).entry.kind ≡ true →
      is_copy_end (ladder_on worked within) (position_of (step_at call worked i)) (step_at call worked (i + 2)) ≡ true →
      is_first_live (base_of worked within) (step_at call worked i).past (step_at call worked i).entry.kind ≡ true →
      IsVictimCopy (ladder_on worked within) (base_of worked within) (four_from call worked i)
  copy_from are finds senses left ends first = record {
    look = step_at call worked i;
    is_copy = record {
      ending = step_at call worked (i + 2);
      leave = step_at call worked (i + 3);
      is_list = record { senses = step_at call worked (i + 1) ∷ []; are_steps = are; finds_page = finds; are_senses = senses; is_left = left };
      ends = ends;
    };
    is_first = first;
  }

  -- such a copy that is served alone, from one past of the history to the one four entries later
  pub serial_from : (n : ℕ) (ends : Bool) →
      AreStepsFrom (tag_of 0 call) (past_of (take n worked.history)) (four_from call worked i) (past_of (take (n + 4) worked.history)) →
      0 < live_of_victim (base_of worked within) (past_of (take n worked.history)) →
      IsVictimCopy (ladder_on worked within) (base_of worked within) (four_from call worked i) →
      ends_round (four_from call worked i) ≡ ends → has_fault (four_from call worked i) ≡ false →
      IsSerialCopy (ladder_on worked within) (base_of worked within) (tag_of 0 call) (past_of (take n worked.history)) (past_of (take (n + 4) worked.history)) ends false
  serial_from n ends are live copy ends_is fault_is =
      record { steps = four_from call worked i; are_steps = are; has_live = live; is_copy = copy; ends_is = ends_is; fault_is = fault_is }
