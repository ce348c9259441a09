-- A run whose last write collects another superblock than a policy would.
use Rattle.std.proofs.Common.{false, [], ◌∷◌, take, drop, refl, inl, inr, lit<, lit≤}
use Rattle.std.proofs.lemmas.List.Elements.{All-from_recursion}
use Rattle.ssd_geo.specs.Noise.{noise_word}
use Rattle.ssd_histories.specs.History.{past_of}
use Rattle.ssd_histories.specs.HistoryExamples.{AreWithinLimits, tag_of}
use Rattle.ssd_histories.specs.Rounds.{IsRound, IsVictimCopy, IsWrite, IsWritePart}
use Rattle.ssd_histories.specs.SerialCalls.{IsSerialCopy, erased, erases, goes_on, makes_room, picks, writes}
use Rattle.ssd_histories.specs.SerialHistory.{none_left, serves}
use Rattle.ssd_geo.specs.declared.reply.Reply.{Reply}
use Rattle.past_examples.specs.RunExamples.{unfit_run, written}
use Rattle.past_examples.specs.WorkedRuns.{HasReplies, IsInOrder, IsServedAlone, channel_to, ladder_on, state_of, steps_in}
use Rattle.past_examples.proofs.Copying.{base_of, copy_from, four_from, serial_from}
use Rattle.past_examples.proofs.WholeCalls.{alone, are_replies, in_order, one_write, replied, whole}

copy_of_5 : (within : AreWithinLimits) → IsVictimCopy (ladder_on unfit_run within) (base_of unfit_run within) (four_from 12 unfit_run 1)
unfolding noise_word
copy_of_5 within = copy_from 12 unfit_run 1 within refl refl refl refl refl refl

copy_of_5_alone : (within : AreWithinLimits) → IsSerialCopy (ladder_on unfit_run within) (base_of unfit_run within) (tag_of 0 12) (past_of (take 13 unfit_run.history)) (past_of (take 17 unfit_run.history)) false false
copy_of_5_alone within = serial_from 12 unfit_run 1 within 13 false (refl, refl, (refl, refl, (refl, refl, (refl, refl, refl)))) (lit< tt) (copy_of_5 within) refl refl

copy_of_6 : (within : AreWithinLimits) → IsVictimCopy (ladder_on unfit_run within) (base_of unfit_run within) (four_from 12 unfit_run 5)
unfolding noise_word
copy_of_6 within = copy_from 12 unfit_run 5 within refl refl refl refl refl refl

copy_of_6_alone : (within : AreWithinLimits) → IsSerialCopy (ladder_on unfit_run within) (base_of unfit_run within) (tag_of 0 12) (past_of (take 17 unfit_run.history)) (past_of (take 21 unfit_run.history)) false false
copy_of_6_alone within = serial_from 12 unfit_run 5 within 17 false (refl, refl, (refl, refl, (refl, refl, (refl, refl, refl)))) (lit< tt) (copy_of_6 within) refl refl

copy_of_7 : (within : AreWithinLimits) → IsVictimCopy (ladder_on unfit_run within) (base_of unfit_run within) (four_from 12 unfit_run 9)
unfolding noise_word
copy_of_7 within = copy_from 12 unfit_run 9 within refl refl refl refl refl refl

copy_of_7_alone : (within : AreWithinLimits) → IsSerialCopy (ladder_on unfit_run within) (base_of unfit_run within) (tag_of 0 12) (past_of (take 21 unfit_run.history)) (past_of (take 25 unfit_run.history)) false false
copy_of_7_alone within = serial_from 12 unfit_run 9 within 21 false (refl, refl, (refl, refl, (refl, refl, (refl, refl, refl)))) (lit< tt) (copy_of_7 within) refl refl

the_round : (within : AreWithinLimits) → IsRound (ladder_on unfit_run within) (base_of unfit_run within) (take 14 (steps_in 12 unfit_run))
the_round within = record {
  picks = take 1 (steps_in 12 unfit_run);
  copies = four_from 12 unfit_run 1 ∷ four_from 12 unfit_run 5 ∷ four_from 12 unfit_run 9 ∷ [];
  erases = take 1 (drop 13 (steps_in 12 unfit_run));
  are_steps = refl;
  one_pick = refl;
  are_copies = All-from_recursion (IsVictimCopy (ladder_on unfit_run within) (base_of unfit_run within)) (four_from 12 unfit_run 1 ∷ four_from 12 unfit_run 5 ∷ four_from 12 unfit_run 9 ∷ []) (copy_of_5 within, (copy_of_6 within, (copy_of_7 within, tt)));
  one_erase = refl;
  ends = refl;
}

last_write : (within : AreWithinLimits) → IsWrite (ladder_on unfit_run within) (base_of unfit_run within) 5 (steps_in 12 unfit_run)
last_write within = record {
  parts = take 14 (steps_in 12 unfit_run) ∷ [];
  last = drop 14 (steps_in 12 unfit_run);
  are_steps = refl;
  are_parts = All-from_recursion (IsWritePart (ladder_on unfit_run within) (base_of unfit_run within) 5) (take 14 (steps_in 12 unfit_run) ∷ []) (inr (record { is_round = the_round within; no_fault = refl }), tt);
  ends = inl refl;
  have_cause = refl;
}

pub calls_in_order : IsInOrder unfit_run
calls_in_order within = in_order unfit_run within refl refl (
  whole unfit_run within (written 0 0) (one_write refl refl) tt (lit≤ tt),
  (
    whole unfit_run within (written 1 1) (one_write refl refl) tt (lit≤ tt),
    (
      whole unfit_run within (written 2 2) (one_write refl refl) tt (lit≤ tt),
      (
        whole unfit_run within (written 3 3) (one_write refl refl) tt (lit≤ tt),
        (
          whole unfit_run within (written 4 4) (one_write refl refl) tt (lit≤ tt),
          (
            whole unfit_run within (written 5 5) (one_write refl refl) tt (lit≤ tt),
            (
              whole unfit_run within (written 6 6) (one_write refl refl) tt (lit≤ tt),
              (
                whole unfit_run within (written 7 7) (one_write refl refl) tt (lit≤ tt),
                (
                  whole unfit_run within (written 8 0) (one_write refl refl) tt (lit≤ tt),
                  (
                    whole unfit_run within (written 9 1) (one_write refl refl) tt (lit≤ tt),
                    (
                      whole unfit_run within (written 10 2) (one_write refl refl) tt (lit≤ tt),
                      (
                        whole unfit_run within (written 11 4) (one_write refl refl) tt (lit≤ tt),
                        (
                          whole unfit_run within (written 12 5) (last_write within) tt (lit≤ tt),
                          tt,
                        ),
                      ),
                    ),
                  ),
                ),
              ),
            ),
          ),
        ),
      ),
    ),
  ),
)

pub is_served : IsServedAlone unfit_run
is_served within =
    serves {between = state_of (channel_to 1 unfit_run within) []} refl
    (alone unfit_run within [] 0 1 _ (writes refl))
    (serves {between = state_of (channel_to 2 unfit_run within) []} refl
    (alone unfit_run within [] 1 2 _ (writes refl))
    (serves {between = state_of (channel_to 3 unfit_run within) []} refl
    (alone unfit_run within [] 2 3 _ (writes refl))
    (serves {between = state_of (channel_to 4 unfit_run within) []} refl
    (alone unfit_run within [] 3 4 _ (writes refl))
    (serves {between = state_of (channel_to 5 unfit_run within) []} refl
    (alone unfit_run within [] 4 5 _ (writes refl))
    (serves {between = state_of (channel_to 6 unfit_run within) []} refl
    (alone unfit_run within [] 5 6 _ (writes refl))
    (serves {between = state_of (channel_to 7 unfit_run within) []} refl
    (alone unfit_run within [] 6 7 _ (writes refl))
    (serves {between = state_of (channel_to 8 unfit_run within) []} refl
    (alone unfit_run within [] 7 8 _ (writes refl))
    (serves {between = state_of (channel_to 9 unfit_run within) []} refl
    (alone unfit_run within [] 8 9 _ (writes refl))
    (serves {between = state_of (channel_to 10 unfit_run within) []} refl
    (alone unfit_run within [] 9 10 _ (writes refl))
    (serves {between = state_of (channel_to 11 unfit_run within) []} refl
    (alone unfit_run within [] 10 11 _ (writes refl))
    (serves {between = state_of (channel_to 12 unfit_run within) []} refl
    (alone unfit_run within [] 11 12 _ (writes refl))
    (serves {between = state_of (channel_to 27 unfit_run within) []} refl
    (alone unfit_run within [] 12 27 _ (makes_room {between = past_of (take 26 unfit_run.history)} {end = erased} refl (picks {sb = 1} refl (goes_on {between = past_of (take 17 unfit_run.history)} (copy_of_5_alone within) (goes_on {between = past_of (take 21 unfit_run.history)} (copy_of_6_alone within) (goes_on {between = past_of (take 25 unfit_run.history)} (copy_of_7_alone within) (erases refl refl))))) refl (writes refl)))
    (none_left)))))))))))))

pub has_replies : HasReplies unfit_run
has_replies within = are_replies unfit_run within (lit≤ tt) (
  replied unfit_run within (written 0 0) Reply.Ok refl refl,
  (
    replied unfit_run within (written 1 1) Reply.Ok refl refl,
    (
      replied unfit_run within (written 2 2) Reply.Ok refl refl,
      (
        replied unfit_run within (written 3 3) Reply.Ok refl refl,
        (
          replied unfit_run within (written 4 4) Reply.Ok refl refl,
          (
            replied unfit_run within (written 5 5) Reply.Ok refl refl,
            (
              replied unfit_run within (written 6 6) Reply.Ok refl refl,
              (
                replied unfit_run within (written 7 7) Reply.Ok refl refl,
                (
                  replied unfit_run within (written 8 0) Reply.Ok refl refl,
                  (
                    replied unfit_run within (written 9 1) Reply.Ok refl refl,
                    (
                      replied unfit_run within (written 10 2) Reply.Ok refl refl,
                      (
                        replied unfit_run within (written 11 4) Reply.Ok refl refl,
                        (
                          replied unfit_run within (written 12 5) Reply.Ok refl refl,
                          tt,
                        ),
                      ),
                    ),
                  ),
                ),
              ),
            ),
          ),
        ),
      ),
    ),
  ),
)
