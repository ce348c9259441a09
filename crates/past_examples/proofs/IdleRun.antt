-- A collect with nothing to do.
use Rattle.std.proofs.Common.{[], refl, inr, lit≤}
use Rattle.std.proofs.lemmas.List.Elements.{All-nil}
use Rattle.ssd_histories.specs.HistoryExamples.{AreWithinLimits}
use Rattle.ssd_histories.specs.Rounds.{IsFaultlessRound, IsLeftRound, IsVictimCopy}
use Rattle.ssd_histories.specs.SerialCalls.{finds_none, is_idle, takes}
use Rattle.ssd_histories.specs.SerialHistory.{none_left, serves}
use Rattle.ssd_geo.specs.declared.reply.Reply.{Reply}
use Rattle.ssd_geo.specs.declared.trace.Verb.{Verb}
use Rattle.past_examples.specs.RunExamples.{idle_run}
use Rattle.past_examples.specs.WorkedRuns.{HasReplies, IsInOrder, IsServedAlone, call_of, channel_to, ladder_on, state_of, steps_in}
use Rattle.past_examples.proofs.Copying.{base_of, step_at}
use Rattle.past_examples.proofs.WholeCalls.{alone, are_replies, in_order, replied, whole}

no_round : (within : AreWithinLimits) → IsFaultlessRound (ladder_on idle_run within) (base_of idle_run within) []
no_round within = record {
  is_round = record {
    picks = [];
    copies = [];
    erases = [];
    are_steps = refl;
    one_pick = refl;
    are_copies = All-nil (IsVictimCopy (ladder_on idle_run within) (base_of idle_run within));
    one_erase = refl;
    ends = refl;
  };
  no_fault = refl;
}

pub calls_in_order : IsInOrder idle_run
calls_in_order within = in_order idle_run within refl refl (
  whole idle_run within (call_of 0 (Verb.Collect 0))
      (record {
        parts = [];
        last = steps_in 0 idle_run;
        are_steps = refl;
        are_parts = All-nil (IsLeftRound (ladder_on idle_run within) (base_of idle_run within));
        ends = inr (record { round = []; note = step_at 0 idle_run 0; are_steps = refl; is_round = no_round within; no_erase = refl; may_end = refl });
      }) tt (lit≤ tt),
  tt,
)

pub is_served : IsServedAlone idle_run
is_served within =
    serves {between = state_of (channel_to 1 idle_run within) []} refl
    (alone idle_run within [] 0 1 _ (is_idle {between = []} (takes refl (finds_none refl)) refl))
    (none_left)

pub has_replies : HasReplies idle_run
has_replies within = are_replies idle_run within (lit≤ tt) (replied idle_run within (call_of 0 (Verb.Collect 0)) Reply.Idle refl refl, tt)
