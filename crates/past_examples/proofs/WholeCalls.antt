-- What a whole run of one channel owes, one call at a time.
use Rattle.std.proofs.Common.{ℕ, ◌≡◌, ◌≤◌, ◌==◌, true, List, [], ◌∷◌, length, take, refl, sym, ap, subst, ◌∙◌, inl}
use Rattle.std.specs.Prelude.{IsTrue, Option, Some, nat_lt, unwrap_or, count_by}
use Rattle.std.specs.List.{AllByRecursion, enumerate_from, list_all}
use Rattle.std.specs.Option.{ForSome}
use Rattle.std.proofs.lemmas.List.Elements.{All-from_recursion, All-nil}
use Rattle.ssd_geo.specs.Ladder.{LadderState}
use Rattle.ssd_histories.specs.CallSteps.{CallStep}
use Rattle.ssd_histories.specs.CallsInOrder.{AreCallSteps, AreCallsInOrder, AreReplies, ChannelRun, IsAsAnswered, IsReplyOf, IsWhole, TookAtMost, answered_by, count_of_faults, hints_taken, is_of_call, never_fall, reply_to, steps_on}
use Rattle.ssd_histories.specs.History.{past_of}
use Rattle.ssd_histories.specs.HistoryExamples.{AreWithinLimits}
use Rattle.ssd_histories.specs.Rounds.{IsWrite, IsWritePart, has_cause_to_pick, is_one, is_write_end}
use Rattle.ssd_histories.specs.SerialHistory.{OnChannel}
use Rattle.ssd_geo.specs.declared.base.ChannelBase.{ChannelBase}
use Rattle.ssd_geo.specs.declared.entry.Entry.{Entry}
use Rattle.ssd_geo.specs.declared.reply.Reply.{Reply}
use Rattle.ssd_geo.specs.declared.trace.TraceCall.{TraceCall}
use Rattle.past_examples.specs.WorkedRuns.{WorkedRun, channel_of, channel_to, state_of}

-- a write that makes its one last entry
pub one_write : {ladder : List Entry → ℕ → LadderState} {base : ChannelBase} {row : ℕ} {steps : List CallStep} →
    is_one (is_write_end row) steps ≡ true → list_all (has_cause_to_pick base) steps ≡ true → IsWrite ladder base row steps
one_write {ladder} {base} {row} {steps} ends cause =
    record { parts = []; last = steps; are_steps = refl; are_parts = All-nil (IsWritePart ladder base row); ends = inl ends; have_cause = cause }

module _ (worked : WorkedRun) (within : AreWithinLimits) where
  -- the one channel
  abbrev pub channels : List ChannelRun
  channels = channel_of worked within ∷ []

  -- a call was made as its actor's replies say
  abbrev pub IsMade : TraceCall → Type 0
  IsMade call = IsAsAnswered worked.contents channels (nat_lt call.tag.call (answered_by (worked.replies ∷ []) call.tag.actor)) (call.tag.call == answered_by (worked.replies ∷ []) call.tag.actor) call

  -- a call with the steps of its verb on the channel was made whole
  pub whole : (call : TraceCall) → AreCallSteps worked.contents 1 call (0, channel_of worked within) (steps_on call.tag (channel_of worked within)) →
      TookAtMost call.verb (hints_taken channels call.tag) → count_of_faults channels call.tag ≤ 1 → IsWhole worked.contents channels call
  whole call steps few one = record {
    on_channels = All-from_recursion (λ item. AreCallSteps worked.contents 1 call item (steps_on call.tag item.1)) (enumerate_from 0 channels) (steps, tt);
    few = few;
    one_fault = one;
  }

  -- calls that were made one by one are in order
  pub in_order : list_all (is_of_call worked.calls) (past_of worked.history) ≡ true → never_fall (past_of worked.history) ≡ true →
      AllByRecursion IsMade worked.calls → AreCallsInOrder worked.contents worked.calls (worked.replies ∷ []) channels
  in_order known rising made = record {
    known = All-from_recursion (λ run. IsTrue (list_all (is_of_call worked.calls) run.past)) channels (known, tt);
    in_order = All-from_recursion (λ run. IsTrue (never_fall run.past)) channels (rising, tt);
    made = All-from_recursion IsMade worked.calls made;
  }

  -- what a call changes on the channel, between two pasts of its history
  pub alone : (hints : List ℕ) (n m : ℕ) (fact : ChannelRun → List Entry → List Entry → Type 0) →
      fact (channel_to n worked within) (past_of (take n worked.history)) (past_of (take m worked.history)) →
      OnChannel 0 fact (state_of (channel_to n worked within) hints) (state_of (channel_to m worked within) hints)
  alone hints n m fact holds = record {
    run = channel_to n worked within;
    past = past_of (take m worked.history);
    is_there = refl;
    holds = holds;
    after_is = refl;
  }

  -- a reply that there is
  abbrev pub HasReply : TraceCall → Type 0
  HasReply call = ForSome (reply_to (worked.replies ∷ []) call.tag) (IsReplyOf worked.contents channels call)

  pub replied : (call : TraceCall) (reply : Reply) → reply_to (worked.replies ∷ []) call.tag ≡ Some reply →
      IsReplyOf worked.contents channels call reply → HasReply call
  replied call reply told is other e =
      subst (IsReplyOf worked.contents channels call) (ap (λ (found : Option Reply). unwrap_or found reply) (sym told ∙ e)) is

  -- replies one by one
  pub are_replies : length worked.replies ≤ count_by (λ call. call.tag.actor == 0) worked.calls → AllByRecursion HasReply worked.calls →
      AreReplies worked.contents worked.calls (worked.replies ∷ []) channels
  are_replies enough each = record {
    enough_calls = All-from_recursion (λ item. length item.1 ≤ count_by (λ call. call.tag.actor == item.0) worked.calls) (enumerate_from 0 (worked.replies ∷ [])) (enough, tt);
    are_replies = All-from_recursion HasReply worked.calls each;
  }
