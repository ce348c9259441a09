-- A run whose last write collects a superblock.
use Rattle.std.proofs.Common.{false, [], ◌∷◌, take, drop, refl, inl, inr, lit<, lit≤}
use Rattle.std.proofs.lemmas.List.Elements.{All-from_recursion}
use Rattle.ssd_geo.specs.Noise.{noise_word}
use Rattle.ssd_histories.specs.History.{past_of}
use Rattle.ssd_histories.specs.HistoryExamples.{AreWithinLimits, tag_of}
use Rattle.ssd_histories.specs.Rounds.{IsRound, IsVictimCopy, IsWrite, IsWritePart}
use Rattle.ssd_histories.specs.SerialCalls.{IsSerialCopy, erased, erases, goes_on, makes_room, picks, writes}
use Rattle.ssd_histories.specs.SerialHistory.{none_left, serves}
use Rattle.ssd_geo.specs.declared.reply.Reply.{Reply}
use Rattle.past_examples.specs.RunExamples.{collected_run, written}
use Rattle.past_examples.specs.WorkedRuns.{HasReplies, IsInOrder, IsServedAlone, channel_to, ladder_on, state_of, steps_in}
use Rattle.past_examples.proofs.Copying.{base_of, copy_from, four_from, serial_from}
use Rattle.past_examples.proofs.WholeCalls.{alone, are_replies, in_order, one_write, replied, whole}

copy_of_3 : (within : AreWithinLimits) → IsVictimCopy (ladder_on collected_run within) (base_of collected_run within) (four_from 12 collected_run 1)
unfolding noise_word
copy_of_3 within = copy_from 12 collected_run 1 within refl refl refl refl refl refl

copy_of_3_alone : (within : AreWithinLimits) → IsSerialCopy (ladder_on collected_run within) (base_of collected_run within) (tag_of 0 12) (past_of (take 13 collected_run.history)) (past_of (take 17 collected_run.history)) false false
copy_of_3_alone within = serial_from 12 collected_run 1 within 13 false (refl, refl, (refl, refl, (refl, refl, (refl, refl, refl)))) (lit< tt) (copy_of_3 within) refl refl

the_round : (within : AreWithinLimits) → IsRound (ladder_on collected_run within) (base_of collected_run within) (take 6 (steps_in 12 collected_run))
the_round within = record {
  picks = take 1 (steps_in 12 collected_run);
  copies = four_from 12 collected_run 1 ∷ [];
  erases = take 1 (drop 5 (steps_in 12 collected_run));
  are_steps = refl;
  one_pick = refl;
  are_copies = All-from_recursion (IsVictimCopy (ladder_on collected_run within) (base_of collected_run within)) (four_from 12 collected_run 1 ∷ []) (copy_of_3 within, tt);
  one_erase = refl;
  ends = refl;
}

last_write : (within : AreWithinLimits) → IsWrite (ladder_on collected_run within) (base_of collected_run within) 5 (steps_in 12 collected_run)
last_write within = record {
  parts = take 6 (steps_in 12 collected_run) ∷ [];
  last = drop 6 (steps_in 12 collected_run);
  are_steps = refl;
  are_parts = All-from_recursion (IsWritePart (ladder_on collected_run within) (base_of collected_run within) 5) (take 6 (steps_in 12 collected_run) ∷ []) (inr (record { is_round = the_round within; no_fault = refl }), tt);
  ends = inl refl;
  have_cause = refl;
}

pub calls_in_order : IsInOrder collected_run
calls_in_order within = in_order collected_run within refl refl (
  whole collected_run within (written 0 0) (one_write refl refl) tt (lit≤ tt),
  (
    whole collected_run within (written 1 1) (one_write refl refl) tt (lit≤ tt),
    (
      whole collected_run within (written 2 2) (one_write refl refl) tt (lit≤ tt),
      (
        whole collected_run within (written 3 3) (one_write refl refl) tt (lit≤ tt),
        (
          whole collected_run within (written 4 4) (one_write refl refl) tt (lit≤ tt),
          (
            whole collected_run within (written 5 5) (one_write refl refl) tt (lit≤ tt),
            (
              whole collected_run within (written 6 6) (one_write refl refl) tt (lit≤ tt),
              (
                whole collected_run within (written 7 7) (one_write refl refl) tt (lit≤ tt),
                (
                  whole collected_run within (written 8 0) (one_write refl refl) tt (lit≤ tt),
                  (
                    whole collected_run within (written 9 1) (one_write refl refl) tt (lit≤ tt),
                    (
                      whole collected_run within (written 10 2) (one_write refl refl) tt (lit≤ tt),
                      (
                        whole collected_run within (written 11 4) (one_write refl refl) tt (lit≤ tt),
                        (
                          whole collected_run within (written 12 5) (last_write within) tt (lit≤ tt),
                          tt,
                        ),
                      ),
                    ),
                  ),
                ),
              ),
            ),
          ),
        ),
      ),
    ),
  ),
)

pub is_served : IsServedAlone collected_run
is_served within =
    serves {between = state_of (channel_to 1 collected_run within) []} refl
    (alone collected_run within [] 0 1 _ (writes refl))
    (serves {between = state_of (channel_to 2 collected_run within) []} refl
    (alone collected_run within [] 1 2 _ (writes refl))
    (serves {between = state_of (channel_to 3 collected_run within) []} refl
    (alone collected_run within [] 2 3 _ (writes refl))
    (serves {between = state_of (channel_to 4 collected_run within) []} refl
    (alone collected_run within [] 3 4 _ (writes refl))
    (serves {between = state_of (channel_to 5 collected_run within) []} refl
    (alone collected_run within [] 4 5 _ (writes refl))
    (serves {between = state_of (channel_to 6 collected_run within) []} refl
    (alone collected_run within [] 5 6 _ (writes refl))
    (serves {between = state_of (channel_to 7 collected_run within) []} refl
    (alone collected_run within [] 6 7 _ (writes refl))
    (serves {between = state_of (channel_to 8 collected_run within) []} refl
    (alone collected_run within [] 7 8 _ (writes refl))
    (serves {between = state_of (channel_to 9 collected_run within) []} refl
    (alone collected_run within [] 8 9 _ (writes refl))
    (serves {between = state_of (channel_to 10 collected_run within) []} refl
    (alone collected_run within [] 9 10 _ (writes refl))
    (serves {between = state_of (channel_to 11 collected_run within) []} refl
    (alone collected_run within [] 10 11 _ (writes refl))
    (serves {between = state_of (channel_to 12 collected_run within) []} refl
    (alone collected_run within [] 11 12 _ (writes refl))
    (serves {between = state_of (channel_to 19 collected_run within) []} refl
    (alone collected_run within [] 12 19 _ (makes_room {between = past_of (take 18 collected_run.history)} {end = erased} refl (picks {sb = 0} refl (goes_on {between = past_of (take 17 collected_run.history)} (copy_of_3_alone within) (erases refl refl))) refl (writes refl)))
    (none_left)))))))))))))

pub has_replies : HasReplies collected_run
has_replies within = are_replies collected_run within (lit≤ tt) (
  replied collected_run within (written 0 0) Reply.Ok refl refl,
  (
    replied collected_run within (written 1 1) Reply.Ok refl refl,
    (
      replied collected_run within (written 2 2) Reply.Ok refl refl,
      (
        replied collected_run within (written 3 3) Reply.Ok refl refl,
        (
          replied collected_run within (written 4 4) Reply.Ok refl refl,
          (
            replied collected_run within (written 5 5) Reply.Ok refl refl,
            (
              replied collected_run within (written 6 6) Reply.Ok refl refl,
              (
                replied collected_run within (written 7 7) Reply.Ok refl refl,
                (
                  replied collected_run within (written 8 0) Reply.Ok refl refl,
                  (
                    replied collected_run within (written 9 1) Reply.Ok refl refl,
                    (
                      replied collected_run within (written 10 2) Reply.Ok refl refl,
                      (
                        replied collected_run within (written 11 4) Reply.Ok refl refl,
                        (
                          replied collected_run within (written 12 5) Reply.Ok refl refl,
                          tt,
                        ),
                      ),
                    ),
                  ),
                ),
              ),
            ),
          ),
        ),
      ),
    ),
  ),
)
