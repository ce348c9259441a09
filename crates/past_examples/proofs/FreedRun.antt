-- A collect that copies a page and erases its victim.
use Rattle.std.proofs.Common.{false, [], ◌∷◌, take, drop, refl, inl, lit<, lit≤}
use Rattle.std.proofs.lemmas.List.Elements.{All-from_recursion, All-nil}
use Rattle.ssd_geo.specs.Noise.{noise_word}
use Rattle.ssd_histories.specs.History.{past_of}
use Rattle.ssd_histories.specs.HistoryExamples.{AreWithinLimits, tag_of}
use Rattle.ssd_histories.specs.Rounds.{IsLeftRound, IsRound, IsVictimCopy}
use Rattle.ssd_histories.specs.SerialCalls.{IsSerialCopy, decides, erased, erases, goes_on, picks, writes}
use Rattle.ssd_histories.specs.SerialHistory.{none_left, serves}
use Rattle.ssd_geo.specs.declared.reply.Reply.{Reply}
use Rattle.ssd_geo.specs.declared.trace.Verb.{Verb}
use Rattle.past_examples.specs.RunExamples.{freed_run, written}
use Rattle.past_examples.specs.WorkedRuns.{HasReplies, IsInOrder, IsServedAlone, call_of, channel_to, ladder_on, state_of, steps_in}
use Rattle.past_examples.proofs.Copying.{base_of, copy_from, four_from, serial_from}
use Rattle.past_examples.proofs.WholeCalls.{alone, are_replies, in_order, one_write, replied, whole}

copy_of_0 : (within : AreWithinLimits) → IsVictimCopy (ladder_on freed_run within) (base_of freed_run within) (four_from 5 freed_run 1)
unfolding noise_word
copy_of_0 within = copy_from 5 freed_run 1 within refl refl refl refl refl refl

copy_of_0_alone : (within : AreWithinLimits) → IsSerialCopy (ladder_on freed_run within) (base_of freed_run within) (tag_of 0 5) (past_of (take 6 freed_run.history)) (past_of (take 10 freed_run.history)) false false
copy_of_0_alone within = serial_from 5 freed_run 1 within 6 false (refl, refl, (refl, refl, (refl, refl, (refl, refl, refl)))) (lit< tt) (copy_of_0 within) refl refl

the_round : (within : AreWithinLimits) → IsRound (ladder_on freed_run within) (base_of freed_run within) (steps_in 5 freed_run)
the_round within = record {
  picks = take 1 (steps_in 5 freed_run);
  copies = four_from 5 freed_run 1 ∷ [];
  erases = take 1 (drop 5 (steps_in 5 freed_run));
  are_steps = refl;
  one_pick = refl;
  are_copies = All-from_recursion (IsVictimCopy (ladder_on freed_run within) (base_of freed_run within)) (four_from 5 freed_run 1 ∷ []) (copy_of_0 within, tt);
  one_erase = refl;
  ends = refl;
}

pub calls_in_order : IsInOrder freed_run
calls_in_order within = in_order freed_run within refl refl (
  whole freed_run within (written 0 0) (one_write refl refl) tt (lit≤ tt),
  (
    whole freed_run within (written 1 0) (one_write refl refl) tt (lit≤ tt),
    (
      whole freed_run within (written 2 0) (one_write refl refl) tt (lit≤ tt),
      (
        whole freed_run within (written 3 0) (one_write refl refl) tt (lit≤ tt),
        (
          whole freed_run within (written 4 1) (one_write refl refl) tt (lit≤ tt),
          (
            whole freed_run within (call_of 5 (Verb.Collect 0))
                (record {
                  parts = [];
                  last = steps_in 5 freed_run;
                  are_steps = refl;
                  are_parts = All-nil (IsLeftRound (ladder_on freed_run within) (base_of freed_run within));
                  ends = inl (record { is_round = the_round within; is_done = refl });
                }) tt (lit≤ tt),
            tt,
          ),
        ),
      ),
    ),
  ),
)

pub is_served : IsServedAlone freed_run
is_served within =
    serves {between = state_of (channel_to 1 freed_run within) []} refl
    (alone freed_run within [] 0 1 _ (writes refl))
    (serves {between = state_of (channel_to 2 freed_run within) []} refl
    (alone freed_run within [] 1 2 _ (writes refl))
    (serves {between = state_of (channel_to 3 freed_run within) []} refl
    (alone freed_run within [] 2 3 _ (writes refl))
    (serves {between = state_of (channel_to 4 freed_run within) []} refl
    (alone freed_run within [] 3 4 _ (writes refl))
    (serves {between = state_of (channel_to 5 freed_run within) []} refl
    (alone freed_run within [] 4 5 _ (writes refl))
    (serves {between = state_of (channel_to 11 freed_run within) []} refl
    (alone freed_run within [] 5 11 _ (decides {end = erased} (picks {sb = 0} refl (goes_on {between = past_of (take 10 freed_run.history)} (copy_of_0_alone within) (erases refl refl))) refl))
    (none_left))))))

pub has_replies : HasReplies freed_run
has_replies within = are_replies freed_run within (lit≤ tt) (
  replied freed_run within (written 0 0) Reply.Ok refl refl,
  (
    replied freed_run within (written 1 0) Reply.Ok refl refl,
    (
      replied freed_run within (written 2 0) Reply.Ok refl refl,
      (
        replied freed_run within (written 3 0) Reply.Ok refl refl,
        (
          replied freed_run within (written 4 1) Reply.Ok refl refl,
          (
            replied freed_run within (call_of 5 (Verb.Collect 0)) (Reply.Collected 0) refl refl,
            tt,
          ),
        ),
      ),
    ),
  ),
)
