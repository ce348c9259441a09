-- Two reads, of which a die fails in the first.
use Rattle.std.proofs.Common.{[], ◌∷◌, take, drop, refl, inr, lit≤}
use Rattle.ssd_geo.specs.Noise.{noise_word}
use Rattle.ssd_histories.specs.Copies.{IsRead}
use Rattle.ssd_histories.specs.HistoryExamples.{AreWithinLimits}
use Rattle.ssd_histories.specs.SerialCalls.{writes}
use Rattle.ssd_histories.specs.SerialHistory.{none_left, serves}
use Rattle.ssd_geo.specs.declared.reply.Reply.{Reply}
use Rattle.ssd_geo.specs.declared.trace.Content.{Content}
use Rattle.ssd_geo.specs.declared.trace.Verb.{Verb}
use Rattle.past_examples.specs.RunExamples.{faulted_run}
use Rattle.past_examples.specs.WorkedRuns.{HasReplies, IsInOrder, IsServedAlone, call_of, channel_to, ladder_on, state_of, steps_in}
use Rattle.past_examples.proofs.Copying.{step_at}
use Rattle.past_examples.proofs.WholeCalls.{alone, are_replies, in_order, one_write, replied, whole}

failed_read : (within : AreWithinLimits) → IsRead (ladder_on faulted_run within) 0 (steps_in 1 faulted_run)
unfolding noise_word
failed_read within =
    inr
    (record {
      look = step_at 1 faulted_run 0;
      ending = step_at 1 faulted_run 1 ∷ [];
      leave = step_at 1 faulted_run 2;
      is_list = record { senses = take 0 (drop 1 (steps_in 1 faulted_run)); are_steps = refl; finds_page = refl; are_senses = refl; is_left = refl };
      of_row = refl;
      ends = refl;
    })

good_read : (within : AreWithinLimits) → IsRead (ladder_on faulted_run within) 0 (steps_in 2 faulted_run)
unfolding noise_word
good_read within =
    inr
    (record {
      look = step_at 2 faulted_run 0;
      ending = [];
      leave = step_at 2 faulted_run 2;
      is_list = record { senses = take 1 (drop 1 (steps_in 2 faulted_run)); are_steps = refl; finds_page = refl; are_senses = refl; is_left = refl };
      of_row = refl;
      ends = refl;
    })

pub calls_in_order : IsInOrder faulted_run
calls_in_order within = in_order faulted_run within refl refl (
  whole faulted_run within (call_of 0 (Verb.Write 0 (Content.Listed (5 ∷ [])))) (one_write refl refl) tt (lit≤ tt),
  (
    whole faulted_run within (call_of 1 (Verb.Read 0)) (failed_read within) tt (lit≤ tt),
    (
      whole faulted_run within (call_of 2 (Verb.Read 0)) (good_read within) tt (lit≤ tt),
      tt,
    ),
  ),
)

pub is_served : IsServedAlone faulted_run
unfolding noise_word
is_served within =
    serves {between = state_of (channel_to 1 faulted_run within) []} refl
    (alone faulted_run within [] 0 1 _ (writes refl))
    (serves {between = state_of (channel_to 4 faulted_run within) []} refl
    (record { between = state_of (channel_to 4 faulted_run within) []; reads = alone faulted_run within [] 1 4 _ (record { steps = steps_in 1 faulted_run; are_steps = (refl, refl, (refl, refl, (refl, refl, refl))); has_form = failed_read within }); after_is = refl })
    (serves {between = state_of (channel_to 7 faulted_run within) []} refl
    (record { between = state_of (channel_to 7 faulted_run within) []; reads = alone faulted_run within [] 4 7 _ (record { steps = steps_in 2 faulted_run; are_steps = (refl, refl, (refl, refl, (refl, refl, refl))); has_form = good_read within }); after_is = refl })
    (none_left)))

pub has_replies : HasReplies faulted_run
unfolding noise_word
has_replies within = are_replies faulted_run within (lit≤ tt) (
  replied faulted_run within (call_of 0 (Verb.Write 0 (Content.Listed (5 ∷ [])))) Reply.Ok refl refl,
  (
    replied faulted_run within (call_of 1 (Verb.Read 0)) (Reply.DieFault 1) refl refl,
    (
      replied faulted_run within (call_of 2 (Verb.Read 0)) (Reply.Data 0 (5 ∷ 0 ∷ 0 ∷ 0 ∷ 0 ∷ 0 ∷ 0 ∷ 0 ∷ [])) refl refl,
      tt,
    ),
  ),
)
