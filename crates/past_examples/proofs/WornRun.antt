-- A run on a channel that becomes full and then worn.
use Rattle.std.proofs.Common.{true, false, [], ◌∷◌, take, drop, refl, inl, inr, lit<, lit≤}
use Rattle.std.proofs.lemmas.List.Elements.{All-from_recursion}
use Rattle.ssd_geo.specs.Noise.{noise_word}
use Rattle.ssd_histories.specs.Copies.{IsRead}
use Rattle.ssd_histories.specs.History.{past_of}
use Rattle.ssd_histories.specs.HistoryExamples.{AreWithinLimits, tag_of}
use Rattle.ssd_histories.specs.Rounds.{IsRound, IsVictimCopy, IsWrite, IsWritePart}
use Rattle.ssd_histories.specs.SerialCalls.{IsSerialCopy, goes_on, is_refused, left, makes_room, picks, stays, writes, writes_again}
use Rattle.ssd_histories.specs.SerialHistory.{none_left, serves}
use Rattle.ssd_geo.specs.declared.reply.Reply.{Reply}
use Rattle.ssd_geo.specs.declared.trace.Verb.{Verb}
use Rattle.past_examples.specs.RunExamples.{worn_run, written}
use Rattle.past_examples.specs.WorkedRuns.{HasReplies, IsInOrder, IsServedAlone, call_of, channel_to, ladder_on, state_of, steps_in}
use Rattle.past_examples.proofs.Copying.{base_of, copy_from, four_from, serial_from, step_at}
use Rattle.past_examples.proofs.WholeCalls.{alone, are_replies, in_order, one_write, replied, whole}

copy_of_0 : (within : AreWithinLimits) → IsVictimCopy (ladder_on worn_run within) (base_of worn_run within) (four_from 10 worn_run 1)
unfolding noise_word
copy_of_0 within = copy_from 10 worn_run 1 within refl refl refl refl refl refl

copy_of_0_alone : (within : AreWithinLimits) → IsSerialCopy (ladder_on worn_run within) (base_of worn_run within) (tag_of 0 10) (past_of (take 12 worn_run.history)) (past_of (take 16 worn_run.history)) false false
copy_of_0_alone within = serial_from 10 worn_run 1 within 12 false (refl, refl, (refl, refl, (refl, refl, (refl, refl, refl)))) (lit< tt) (copy_of_0 within) refl refl

failing_copy : (within : AreWithinLimits) → IsVictimCopy (ladder_on worn_run within) (base_of worn_run within) (four_from 10 worn_run 5)
unfolding noise_word
failing_copy within = copy_from 10 worn_run 5 within refl refl refl refl refl refl

failing_copy_alone : (within : AreWithinLimits) → IsSerialCopy (ladder_on worn_run within) (base_of worn_run within) (tag_of 0 10) (past_of (take 16 worn_run.history)) (past_of (take 20 worn_run.history)) false false
failing_copy_alone within = serial_from 10 worn_run 5 within 16 false (refl, refl, (refl, refl, (refl, refl, (refl, refl, refl)))) (lit< tt) (failing_copy within) refl refl

staying_copy : (within : AreWithinLimits) → IsVictimCopy (ladder_on worn_run within) (base_of worn_run within) (four_from 10 worn_run 9)
unfolding noise_word
staying_copy within = copy_from 10 worn_run 9 within refl refl refl refl refl refl

staying_copy_alone : (within : AreWithinLimits) → IsSerialCopy (ladder_on worn_run within) (base_of worn_run within) (tag_of 0 10) (past_of (take 20 worn_run.history)) (past_of (take 24 worn_run.history)) true false
staying_copy_alone within = serial_from 10 worn_run 9 within 20 true (refl, refl, (refl, refl, (refl, refl, (refl, refl, refl)))) (lit< tt) (staying_copy within) refl refl

last_read : (within : AreWithinLimits) → IsRead (ladder_on worn_run within) 3 (steps_in 11 worn_run)
unfolding noise_word
last_read within =
    inr
    (record {
      look = step_at 11 worn_run 0;
      ending = [];
      leave = step_at 11 worn_run 2;
      is_list = record { senses = take 1 (drop 1 (steps_in 11 worn_run)); are_steps = refl; finds_page = refl; are_senses = refl; is_left = refl };
      of_row = refl;
      ends = refl;
    })

the_round : (within : AreWithinLimits) → IsRound (ladder_on worn_run within) (base_of worn_run within) (take 13 (steps_in 10 worn_run))
the_round within = record {
  picks = take 1 (steps_in 10 worn_run);
  copies = four_from 10 worn_run 1 ∷ four_from 10 worn_run 5 ∷ four_from 10 worn_run 9 ∷ [];
  erases = [];
  are_steps = refl;
  one_pick = refl;
  are_copies = All-from_recursion (IsVictimCopy (ladder_on worn_run within) (base_of worn_run within)) (four_from 10 worn_run 1 ∷ four_from 10 worn_run 5 ∷ four_from 10 worn_run 9 ∷ []) (copy_of_0 within, (failing_copy within, (staying_copy within, tt)));
  one_erase = refl;
  ends = refl;
}

full_write : (within : AreWithinLimits) → IsWrite (ladder_on worn_run within) (base_of worn_run within) 0 (steps_in 8 worn_run)
full_write within = record {
  parts = take 1 (steps_in 8 worn_run) ∷ [];
  last = drop 1 (steps_in 8 worn_run);
  are_steps = refl;
  are_parts = All-from_recursion (IsWritePart (ladder_on worn_run within) (base_of worn_run within) 0) (take 1 (steps_in 8 worn_run) ∷ []) (inl refl, tt);
  ends = inl refl;
  have_cause = refl;
}

worn_write : (within : AreWithinLimits) → IsWrite (ladder_on worn_run within) (base_of worn_run within) 0 (steps_in 10 worn_run)
worn_write within = record {
  parts = take 13 (steps_in 10 worn_run) ∷ [];
  last = drop 13 (steps_in 10 worn_run);
  are_steps = refl;
  are_parts = All-from_recursion (IsWritePart (ladder_on worn_run within) (base_of worn_run within) 0) (take 13 (steps_in 10 worn_run) ∷ []) (inr (record { is_round = the_round within; no_fault = refl }), tt);
  ends = inl refl;
  have_cause = refl;
}

pub calls_in_order : IsInOrder worn_run
calls_in_order within = in_order worn_run within refl refl (
  whole worn_run within (written 0 0) (one_write refl refl) tt (lit≤ tt),
  (
    whole worn_run within (written 1 1) (one_write refl refl) tt (lit≤ tt),
    (
      whole worn_run within (written 2 2) (one_write refl refl) tt (lit≤ tt),
      (
        whole worn_run within (written 3 3) (one_write refl refl) tt (lit≤ tt),
        (
          whole worn_run within (written 4 4) (one_write refl refl) tt (lit≤ tt),
          (
            whole worn_run within (written 5 5) (one_write refl refl) tt (lit≤ tt),
            (
              whole worn_run within (written 6 6) (one_write refl refl) tt (lit≤ tt),
              (
                whole worn_run within (written 7 7) (one_write refl refl) tt (lit≤ tt),
                (
                  whole worn_run within (written 8 0) (full_write within) tt (lit≤ tt),
                  (
                    whole worn_run within (call_of 9 (Verb.Trim 1)) refl tt (lit≤ tt),
                    (
                      whole worn_run within (written 10 0) (worn_write within) tt (lit≤ tt),
                      (
                        whole worn_run within (call_of 11 (Verb.Read 3)) (last_read within) tt (lit≤ tt),
                        tt,
                      ),
                    ),
                  ),
                ),
              ),
            ),
          ),
        ),
      ),
    ),
  ),
)

pub is_served : IsServedAlone worn_run
unfolding noise_word
is_served within =
    serves {between = state_of (channel_to 1 worn_run within) []} refl
    (alone worn_run within [] 0 1 _ (writes refl))
    (serves {between = state_of (channel_to 2 worn_run within) []} refl
    (alone worn_run within [] 1 2 _ (writes refl))
    (serves {between = state_of (channel_to 3 worn_run within) []} refl
    (alone worn_run within [] 2 3 _ (writes refl))
    (serves {between = state_of (channel_to 4 worn_run within) []} refl
    (alone worn_run within [] 3 4 _ (writes refl))
    (serves {between = state_of (channel_to 5 worn_run within) []} refl
    (alone worn_run within [] 4 5 _ (writes refl))
    (serves {between = state_of (channel_to 6 worn_run within) []} refl
    (alone worn_run within [] 5 6 _ (writes refl))
    (serves {between = state_of (channel_to 7 worn_run within) []} refl
    (alone worn_run within [] 6 7 _ (writes refl))
    (serves {between = state_of (channel_to 8 worn_run within) []} refl
    (alone worn_run within [] 7 8 _ (writes refl))
    (serves {between = state_of (channel_to 10 worn_run within) []} refl
    (alone worn_run within [] 8 10 _ (writes_again refl (is_refused refl refl)))
    (serves {between = state_of (channel_to 11 worn_run within) []} refl
    (alone worn_run within [] 10 11 _ (record { steps = steps_in 9 worn_run; are_steps = (refl, refl, refl); has_form = refl }))
    (serves {between = state_of (channel_to 25 worn_run within) []} refl
    (alone worn_run within [] 11 25 _ (makes_room {between = past_of (take 24 worn_run.history)} {end = left} refl (picks {sb = 0} refl (goes_on {between = past_of (take 16 worn_run.history)} (copy_of_0_alone within) (goes_on {between = past_of (take 20 worn_run.history)} (failing_copy_alone within) (stays (staying_copy_alone within))))) refl (is_refused refl refl)))
    (serves {between = state_of (channel_to 28 worn_run within) []} refl
    (record { between = state_of (channel_to 28 worn_run within) []; reads = alone worn_run within [] 25 28 _ (record { steps = steps_in 11 worn_run; are_steps = (refl, refl, (refl, refl, (refl, refl, refl))); has_form = last_read within }); after_is = refl })
    (none_left))))))))))))

pub has_replies : HasReplies worn_run
unfolding noise_word
has_replies within = are_replies worn_run within (lit≤ tt) (
  replied worn_run within (written 0 0) Reply.Ok refl refl,
  (
    replied worn_run within (written 1 1) Reply.Ok refl refl,
    (
      replied worn_run within (written 2 2) Reply.Ok refl refl,
      (
        replied worn_run within (written 3 3) Reply.Ok refl refl,
        (
          replied worn_run within (written 4 4) Reply.Ok refl refl,
          (
            replied worn_run within (written 5 5) Reply.Ok refl refl,
            (
              replied worn_run within (written 6 6) Reply.Ok refl refl,
              (
                replied worn_run within (written 7 7) Reply.Ok refl refl,
                (
                  replied worn_run within (written 8 0) Reply.Full refl refl,
                  (
                    replied worn_run within (call_of 9 (Verb.Trim 1)) Reply.Ok refl refl,
                    (
                      replied worn_run within (written 10 0) Reply.ReadOnly refl refl,
                      (
                        replied worn_run within (call_of 11 (Verb.Read 3)) (Reply.Data 0 (3 ∷ 0 ∷ 0 ∷ 0 ∷ 0 ∷ 0 ∷ 0 ∷ 0 ∷ [])) refl refl,
                        tt,
                      ),
                    ),
                  ),
                ),
              ),
            ),
          ),
        ),
      ),
    ),
  ),
)
