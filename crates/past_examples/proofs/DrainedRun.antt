-- A run in which a page is read at the second level, and moved by a drain.
use Rattle.std.proofs.Common.{◌≡◌, false, [], ◌∷◌, take, drop, refl, inr, lit≤}
use Rattle.std.proofs.lemmas.List.Elements.{All-from_recursion}
use Rattle.ssd_geo.specs.Noise.{noise_word}
use Rattle.ssd_histories.specs.Copies.{IsRead, IsRefresh}
use Rattle.ssd_histories.specs.CallsInOrder.{IsBegun, IsBegunOn, IsSomeRefresh, ladder_in, steps_on}
use Rattle.ssd_histories.specs.Replies.{decided_pages, drained_on, pages_on}
use Rattle.std.specs.List.{enumerate_from}
use Rattle.past_examples.proofs.RefreshExamples.{is_moved}
use Rattle.ssd_histories.specs.History.{past_of}
use Rattle.ssd_histories.specs.HistoryExamples.{AreWithinLimits, tag_of}
use Rattle.ssd_histories.specs.SerialCalls.{writes}
use Rattle.ssd_histories.specs.SerialHistory.{DrainedRefresh, finds_none as none_waits, none_left, serves, takes as takes_hint}
use Rattle.ssd_geo.specs.declared.reply.RefreshReply.{RefreshReply}
use Rattle.ssd_geo.specs.declared.reply.Reply.{Reply}
use Rattle.ssd_geo.specs.declared.trace.Content.{Content}
use Rattle.ssd_geo.specs.declared.trace.Verb.{Verb}
use Rattle.past_examples.specs.RefreshExamples.{drained_run}
use Rattle.past_examples.specs.RunExamples.{begun_run}
use Rattle.past_examples.specs.WorkedRuns.{HasReplies, IsInOrder, IsServedAlone, call_of, channel_of, channel_to, ladder_on, state_of, steps_in}
use Rattle.past_examples.proofs.Copying.{step_at}
use Rattle.past_examples.proofs.WholeCalls.{alone, are_replies, in_order, one_write, replied, whole}

aged_read : (within : AreWithinLimits) → IsRead (ladder_on drained_run within) 0 (steps_in 2 drained_run)
unfolding noise_word
aged_read within =
    inr
    (record {
      look = step_at 2 drained_run 0;
      ending = [];
      leave = step_at 2 drained_run 3;
      is_list = record { senses = take 2 (drop 1 (steps_in 2 drained_run)); are_steps = refl; finds_page = refl; are_senses = refl; is_left = refl };
      of_row = refl;
      ends = refl;
    })

new_read : (within : AreWithinLimits) → IsRead (ladder_on drained_run within) 0 (steps_in 4 drained_run)
unfolding noise_word
new_read within =
    inr
    (record {
      look = step_at 4 drained_run 0;
      ending = [];
      leave = step_at 4 drained_run 2;
      is_list = record { senses = take 1 (drop 1 (steps_in 4 drained_run)); are_steps = refl; finds_page = refl; are_senses = refl; is_left = refl };
      of_row = refl;
      ends = refl;
    })

the_refresh : (within : AreWithinLimits) → IsRefresh (ladder_on drained_run within) 0 (steps_in 3 drained_run)
the_refresh within = is_moved within

drained : (within : AreWithinLimits) → DrainedRefresh drained_run.contents 1 (tag_of 0 3) 0 (state_of (channel_to 6 drained_run within) []) (state_of (channel_to 11 drained_run within) []) false
drained within = record {
  run = channel_to 6 drained_run within;
  past = past_of (take 11 drained_run.history);
  steps = steps_in 3 drained_run;
  is_there = refl;
  are_steps = (refl, refl, (refl, refl, (refl, refl, (refl, refl, (refl, refl, refl)))));
  is_refresh = the_refresh within;
  fault_is = refl;
  after_is = refl;
}

pub calls_in_order : IsInOrder drained_run
calls_in_order within = in_order drained_run within refl refl (
  whole drained_run within (call_of 0 (Verb.Write 0 (Content.Listed (9 ∷ [])))) (one_write refl refl) tt (lit≤ tt),
  (
    whole drained_run within (call_of 1 (Verb.Age 0 1 0 150)) refl tt (lit≤ tt),
    (
      whole drained_run within (call_of 2 (Verb.Read 0)) (aged_read within) tt (lit≤ tt),
      (
        whole drained_run within (call_of 3 (Verb.Drain 4))
            (record {
              refreshes = steps_in 3 drained_run ∷ [];
              are_steps = refl;
              each = All-from_recursion (IsSomeRefresh (ladder_on drained_run within)) (steps_in 3 drained_run ∷ []) (record { row = 0; is_refresh = the_refresh within }, tt);
              faultless = refl;
            }) (lit≤ tt) (lit≤ tt),
        (
          whole drained_run within (call_of 4 (Verb.Read 0)) (new_read within) tt (lit≤ tt),
          tt,
        ),
      ),
    ),
  ),
)

-- the last read where it has no reply
last_begun : (within : AreWithinLimits) → IsBegun begun_run.contents (channel_of begun_run within ∷ []) (call_of 4 (Verb.Read 0))
last_begun within = record {
  on_channels =
      All-from_recursion (IsBegunOn begun_run.contents 1 (call_of 4 (Verb.Read 0))) (enumerate_from 0 (channel_of begun_run within ∷ []))
      (record { rest = []; begins = new_read within }, tt);
  few = tt;
  one_fault = lit≤ tt;
  are_left = refl;
}

pub begun_in_order : IsInOrder begun_run
begun_in_order within = in_order begun_run within refl refl (
  whole begun_run within (call_of 0 (Verb.Write 0 (Content.Listed (9 ∷ [])))) (one_write refl refl) tt (lit≤ tt),
  (
    whole begun_run within (call_of 1 (Verb.Age 0 1 0 150)) refl tt (lit≤ tt),
    (
      whole begun_run within (call_of 2 (Verb.Read 0)) (aged_read within) tt (lit≤ tt),
      (
        whole begun_run within (call_of 3 (Verb.Drain 4))
            (record {
              refreshes = steps_in 3 drained_run ∷ [];
              are_steps = refl;
              each = All-from_recursion (IsSomeRefresh (ladder_on drained_run within)) (steps_in 3 drained_run ∷ []) (record { row = 0; is_refresh = the_refresh within }, tt);
              faultless = refl;
            }) (lit≤ tt) (lit≤ tt),
        (
          last_begun within,
          tt,
        ),
      ),
    ),
  ),
)

pub is_served : IsServedAlone drained_run
unfolding noise_word
is_served within =
    serves {between = state_of (channel_to 1 drained_run within) []} refl
    (alone drained_run within [] 0 1 _ (writes refl))
    (serves {between = state_of (channel_to 2 drained_run within) []} refl
    (alone drained_run within [] 1 2 _ (record { steps = steps_in 1 drained_run; are_steps = (refl, refl, refl); has_form = refl }))
    (serves {between = state_of (channel_to 6 drained_run within) (0 ∷ [])} refl
    (record { between = state_of (channel_to 6 drained_run within) []; reads = alone drained_run within [] 2 6 _ (record { steps = steps_in 2 drained_run; are_steps = (refl, refl, (refl, refl, (refl, refl, (refl, refl, refl)))); has_form = aged_read within }); after_is = refl })
    (serves {between = state_of (channel_to 11 drained_run within) []} refl
    (takes_hint {count = 3} {page = 0} {rest = []} {between = state_of (channel_to 11 drained_run within) []} refl (drained within) (none_waits refl))
    (serves {between = state_of (channel_to 14 drained_run within) []} refl
    (record { between = state_of (channel_to 14 drained_run within) []; reads = alone drained_run within [] 11 14 _ (record { steps = steps_in 4 drained_run; are_steps = (refl, refl, (refl, refl, (refl, refl, refl))); has_form = new_read within }); after_is = refl })
    (none_left)))))

pub has_replies : HasReplies drained_run
unfolding noise_word
has_replies within = are_replies drained_run within (lit≤ tt) (
  replied drained_run within (call_of 0 (Verb.Write 0 (Content.Listed (9 ∷ [])))) Reply.Ok refl refl,
  (
    replied drained_run within (call_of 1 (Verb.Age 0 1 0 150)) Reply.Ok refl refl,
    (
      replied drained_run within (call_of 2 (Verb.Read 0)) (Reply.Data 1 (9 ∷ 0 ∷ 0 ∷ 0 ∷ 0 ∷ 0 ∷ 0 ∷ 0 ∷ [])) refl refl,
      (
        replied drained_run within (call_of 3 (Verb.Drain 4)) (Reply.Drained ((0, RefreshReply.Moved) ∷ [])) refl
            (All-from_recursion (λ item. drained_on (ladder_in drained_run.contents item.1) 1 item.0 (steps_on (tag_of 0 3) item.1) ≡ decided_pages (pages_on 1 item.0 ((0, RefreshReply.Moved) ∷ []))) (enumerate_from 0 (channel_of drained_run within ∷ [])) (refl, tt), refl),
        (
          replied drained_run within (call_of 4 (Verb.Read 0)) (Reply.Data 0 (9 ∷ 0 ∷ 0 ∷ 0 ∷ 0 ∷ 0 ∷ 0 ∷ 0 ∷ [])) refl refl,
          tt,
        ),
      ),
    ),
  ),
)
