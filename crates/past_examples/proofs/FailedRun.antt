-- A write whose first program answers FAIL, and a read.
use Rattle.std.proofs.Common.{[], ◌∷◌, take, drop, refl, inl, inr, lit≤}
use Rattle.std.proofs.lemmas.List.Elements.{All-from_recursion}
use Rattle.ssd_geo.specs.Noise.{noise_word}
use Rattle.ssd_histories.specs.Copies.{IsRead}
use Rattle.ssd_histories.specs.HistoryExamples.{AreWithinLimits}
use Rattle.ssd_histories.specs.Rounds.{IsWrite, IsWritePart}
use Rattle.ssd_histories.specs.SerialCalls.{writes, writes_again}
use Rattle.ssd_histories.specs.SerialHistory.{none_left, serves}
use Rattle.ssd_geo.specs.declared.reply.Reply.{Reply}
use Rattle.ssd_geo.specs.declared.trace.Content.{Content}
use Rattle.ssd_geo.specs.declared.trace.Verb.{Verb}
use Rattle.past_examples.specs.RunExamples.{failed_run}
use Rattle.past_examples.specs.WorkedRuns.{HasReplies, IsInOrder, IsServedAlone, call_of, channel_to, ladder_on, state_of, steps_in}
use Rattle.past_examples.proofs.Copying.{base_of, step_at}
use Rattle.past_examples.proofs.WholeCalls.{alone, are_replies, in_order, replied, whole}

the_read : (within : AreWithinLimits) → IsRead (ladder_on failed_run within) 5 (steps_in 1 failed_run)
unfolding noise_word
the_read within =
    inr
    (record {
      look = step_at 1 failed_run 0;
      ending = [];
      leave = step_at 1 failed_run 2;
      is_list = record { senses = take 1 (drop 1 (steps_in 1 failed_run)); are_steps = refl; finds_page = refl; are_senses = refl; is_left = refl };
      of_row = refl;
      ends = refl;
    })

the_write : (within : AreWithinLimits) → IsWrite (ladder_on failed_run within) (base_of failed_run within) 5 (steps_in 0 failed_run)
the_write within = record {
  parts = take 1 (steps_in 0 failed_run) ∷ [];
  last = drop 1 (steps_in 0 failed_run);
  are_steps = refl;
  are_parts = All-from_recursion (IsWritePart (ladder_on failed_run within) (base_of failed_run within) 5) (take 1 (steps_in 0 failed_run) ∷ []) (inl refl, tt);
  ends = inl refl;
  have_cause = refl;
}

pub calls_in_order : IsInOrder failed_run
calls_in_order within = in_order failed_run within refl refl (
  whole failed_run within (call_of 0 (Verb.Write 5 (Content.Listed (1 ∷ 2 ∷ [])))) (the_write within) tt (lit≤ tt),
  (
    whole failed_run within (call_of 1 (Verb.Read 5)) (the_read within) tt (lit≤ tt),
    tt,
  ),
)

pub is_served : IsServedAlone failed_run
unfolding noise_word
is_served within =
    serves {between = state_of (channel_to 2 failed_run within) []} refl
    (alone failed_run within [] 0 2 _ (writes_again refl (writes refl)))
    (serves {between = state_of (channel_to 5 failed_run within) []} refl
    (record { between = state_of (channel_to 5 failed_run within) []; reads = alone failed_run within [] 2 5 _ (record { steps = steps_in 1 failed_run; are_steps = (refl, refl, (refl, refl, (refl, refl, refl))); has_form = the_read within }); after_is = refl })
    (none_left))

pub has_replies : HasReplies failed_run
unfolding noise_word
has_replies within = are_replies failed_run within (lit≤ tt) (
  replied failed_run within (call_of 0 (Verb.Write 5 (Content.Listed (1 ∷ 2 ∷ [])))) Reply.Ok refl refl,
  (
    replied failed_run within (call_of 1 (Verb.Read 5)) (Reply.Data 0 (1 ∷ 2 ∷ 0 ∷ 0 ∷ 0 ∷ 0 ∷ 0 ∷ 0 ∷ [])) refl refl,
    tt,
  ),
)
