-- A collect among the entries of others: rounds with a note after each, and its last part. A note that ends it though the
-- victim has live pages comes after a stay, or there was lately nothing to copy.
use Rattle.std.proofs.Common.{◌≡◌, ℕ, ◌≤◌, ◌&&◌, ◌||◌, not, Bool, true, false, List, [], ◌∷◌, ◌++◌, Option, Some, None, ◌⊎◌, refl, sym, ◌∙◌, ap, inl, inr, append_assoc, arith}
use Rattle.std.specs.Prelude.{Ok, flat_map, unwrap_or}
use Rattle.std.proofs.lemmas.List.Elements.{All-cons, All-nil}
use Rattle.std.proofs.lemmas.Option.{none-some}
use Rattle.chan_calls.specs.Caller.{CallerView}
use Rattle.chan_tables.specs.declared.answers.Note.{Note}
use Rattle.ssd_geo.specs.Ladder.{LadderState}
use Rattle.ssd_geo.specs.declared.entry.Entry.{Entry}
use Rattle.ssd_geo.specs.declared.kind.Kind.{Kind}
use Rattle.ssd_geo.specs.declared.reply.Reply.{Reply}
use Rattle.ssd_geo.specs.declared.tag.Tag.{Tag}
use Rattle.ssd_histories.specs.CallSteps.{CallStep, is_fault}
use Rattle.ssd_histories.specs.Lawful.{IsLawful}
use Rattle.ssd_histories.specs.Replies.{collect_decided, collect_reply, first_reply}
use Rattle.ssd_histories.specs.Rounds.{IsCollect, IsLeftRound, ends_in_stay, had_nothing_live, has_erase, has_fault, has_live_pages, is_idle_note}
use Rattle.ssd_histories.specs.SerialCalls.{entry_of}
use Rattle.ssd_histories.specs.Start.{Start}
use Rattle.collector.specs.AloneReplies.{reply_to_collect}
use Rattle.collector.specs.Collects.{DecidesCollect, HasNoted, LeavesOff, LeavesRounds, MakesCollectFor, by_note, by_round, decided_by}
use Rattle.collector.specs.Collects as collects
use Rattle.collector.specs.Emptying.{having_seen}
use Rattle.collector.specs.declared.replies.CollectReply.{CollectReply}
use Rattle.collector.specs.declared.replies.RoundReply.{RoundReply}
use Rattle.collector.specs.declared.replies.RoundReply.TheVariants as round
use Rattle.serial_laws.proofs.LookLists.{by_kind}
use Rattle.serial_laws.proofs.MadeRounds.{faults_join, none_in_both}
use Rattle.serial_laws.proofs.MadeSteps.{faults_in}
use Rattle.serial_laws.proofs.MadeWrites.{one_fault_in_one}
use Rattle.calls_among_others.specs.CallsAmong.{ladders}
use Rattle.calls_among_others.specs.Parts.{is_left}
use Rattle.calls_among_others.specs.StepsAmong.{AreStepsAmong, HasCome}
use Rattle.calls_among_others.specs.WholeCalls.{CollectsAmongAreCollects}
use Rattle.calls_among_others.proofs.AmongCopies.{came, one_made}
use Rattle.calls_among_others.proofs.AmongHosts.{own_fact, own_steps}
use Rattle.calls_among_others.proofs.AmongRounds.{RoundMade, nothing_live, round_made}
use Rattle.calls_among_others.proofs.AmongSteps.{among_join, late_more, lawful_among}
use Rattle.calls_among_others.proofs.LookSteps.{made_step, none_first}
use Rattle.collector.proofs.AloneReplies.{collected_so, in_collect}
use Rattle.serial_laws.proofs.MadeCollects.{end_by}
use Rattle.std.proofs.lemmas.Bool.{or_parts}

-- the reply of a collect that decided something, or nothing
as_collect : Option CollectReply → Reply
as_collect None = Reply.Idle
as_collect (Some reply) = reply_to_collect reply

not_left : (ended : RoundReply) (reply : CollectReply) → decided_by ended ≡ Some reply → not (is_left ended) ≡ true
not_left (round.Erased sb) reply e = refl
not_left (round.Retired sb) reply e = refl
not_left (round.DieFault die) reply e = refl
not_left round.Left reply e = absurd (none-some reply e)

left_undecided : in_collect round.Left ≡ None
unfolding in_collect
left_undecided = refl

module _ (start : Start) (contents : List (Tag × List ℕ)) (caller : CallerView) (tag : Tag) where
  abbrev ladder : List Entry → ℕ → LadderState
  ladder = ladders start contents

  -- a collect, or what of it is left to make
  record CollectMade (before after : List Entry) (reply : CollectReply) : Type 0 where
    steps : List CallStep
    are_steps : AreStepsAmong tag before steps after
    is_collect : IsCollect ladder start.base steps
    one_fault : faults_in steps ≤ 1
    reply_is : collect_reply steps ≡ reply_to_collect reply

  -- a round that left its victim, with the note after it
  record NoteMade (before after : List Entry) (note : Note) : Type 0 where
    left : List Entry
    round : RoundMade start contents caller tag before left round.Left
    now : List Entry
    found : HasCome tag.actor left now
    after_is : after ≡ entry_of tag (Kind.Note note.free note.victim note.live note.pins note.garbage) ∷ now

  note_made : (before after : List Entry) (note : Note) → HasNoted start contents caller tag before after (Ok note) →
      NoteMade before after note
  note_made before after note has = record {
    left = has.left;
    round = round_made start contents caller tag before has.left round.Left has.round;
    now = has.notes.0;
    found = came (having_seen caller has.left) tag has.notes.0 has.notes.1;
    after_is = has.notes.3;
  }

  module _ (before after : List Entry) (note : Note) (made : NoteMade before after note) where
    abbrev noted : Kind
    noted = Kind.Note note.free note.victim note.live note.pins note.garbage

    abbrev note_step : CallStep
    note_step = made_step tag noted made.now

    abbrev part : List CallStep
    part = made.round.steps ++ note_step ∷ []

    last_steps : AreStepsAmong tag made.left (note_step ∷ []) after
    last_steps = one_made tag noted made.left made.now after made.found made.after_is

    part_steps : AreStepsAmong tag before part after
    part_steps = among_join tag before made.left after made.round.steps (note_step ∷ []) made.round.are_steps last_steps

    no_fault : has_fault made.round.steps ≡ false
    no_fault = made.round.decides.fault_is

    no_erase : has_erase made.round.steps ≡ false
    no_erase = (or_parts (has_erase made.round.steps) (has_fault made.round.steps) made.round.decides.done_is).0

    undecided : first_reply (λ step. collect_decided step.entry.kind) part ≡ None
    undecided =
        none_first (λ step. collect_decided step.entry.kind) made.round.steps (note_step ∷ [])
        (made.round.decides.collects_is ∙ left_undecided)

    is_left_round : IsLeftRound ladder start.base part
    is_left_round = record {
      round = made.round.steps;
      note = note_step;
      are_steps = refl;
      is_round = record { is_round = made.round.is_round; no_fault = rw no_fault refl };
      no_erase = rw no_erase refl;
      is_note = refl;
    }

    -- the collect goes on after it
    goes_on_after : (last : List Entry) (reply : CollectReply) → CollectMade after last reply → CollectMade before last reply
    goes_on_after last reply rest =
        let collect : IsCollect ladder start.base rest.steps = rest.is_collect in
        let faultless : has_fault part ≡ false =
        none_in_both (by_kind is_fault) made.round.steps (note_step ∷ []) no_fault refl in
        record {
          steps = part ++ rest.steps;
          are_steps = among_join tag before after last part rest.steps part_steps rest.are_steps;
          is_collect = record {
            parts = part ∷ collect.parts;
            last = collect.last;
            are_steps =
                ap (λ (steps : List CallStep). part ++ steps) collect.are_steps
                ∙ sym (append_assoc part (flat_map (λ part. part) collect.parts) collect.last);
            are_parts = All-cons (IsLeftRound ladder start.base) part collect.parts is_left_round collect.are_parts;
            ends = collect.ends;
          };
          one_fault = let sums = faults_join part rest.steps faultless in let few = rest.one_fault in omega (arith, sums, few);
          reply_is =
              ap (λ (decided : Option Reply). unwrap_or decided Reply.Idle)
              (none_first (λ step. collect_decided step.entry.kind) part rest.steps undecided)
              ∙ rest.reply_is;
        }

    -- or ends with it
    ends_after : IsLawful start contents after → is_idle_note noted ≡ true → (reply : CollectReply) →
        Reply.Idle ≡ reply_to_collect reply → CollectMade before after reply
    ends_after lawful idle reply reply_is =
        let there : IsLawful start contents made.left =
        lawful_among ladder start.base tag made.left after (note_step ∷ []) last_steps lawful in
        let cause : (ends_in_stay made.round.steps ≡ true) ⊎ (had_nothing_live start.base note_step ≡ true) =
        elim (made.round.idle there refl) [
          | inl stay ↦ inl stay
          | inr none ↦ inr (late_more tag.actor (nothing_live start contents caller tag) made.left made.now made.found none)
        ] in
        record {
          steps = part;
          are_steps = part_steps;
          is_collect = record {
            parts = [];
            last = part;
            are_steps = refl;
            are_parts = All-nil (IsLeftRound ladder start.base);
            ends = inr (record {
              round = made.round.steps;
              note = note_step;
              are_steps = refl;
              is_round = record { is_round = made.round.is_round; no_fault = rw no_fault refl };
              no_erase = rw no_erase refl;
              may_end = end_by (is_idle_note noted) (not (has_live_pages noted)) (ends_in_stay made.round.steps)
                  (had_nothing_live start.base note_step) idle cause;
            });
          };
          one_fault =
              let sums = faults_join made.round.steps (note_step ∷ []) no_fault in
              let few = one_fault_in_one tag noted made.now in
              omega (arith, sums, few);
          reply_is = ap (λ (decided : Option Reply). unwrap_or decided Reply.Idle) undecided ∙ reply_is;
        }

  -- a round that decides it
  decided_made : (before after : List Entry) (ended : RoundReply) (reply : CollectReply) → decided_by ended ≡ Some reply →
      RoundMade start contents caller tag before after ended → CollectMade before after reply
  decided_made before after ended reply is made = record {
    steps = made.steps;
    are_steps = made.are_steps;
    is_collect = record {
      parts = [];
      last = made.steps;
      are_steps = refl;
      are_parts = All-nil (IsLeftRound ladder start.base);
      ends = inl (record { is_round = made.is_round; is_done = made.decides.done_is ∙ not_left ended reply is });
    };
    one_fault = made.one_fault;
    reply_is =
        ap (λ (decided : Option Reply). unwrap_or decided Reply.Idle) made.decides.collects_is ∙ collected_so ended reply is;
  }

  last_made : (before after : List Entry) (reply : CollectReply) → IsLawful start contents after →
      DecidesCollect start contents caller tag before after reply → CollectMade before after reply
  last_made before after reply lawful (by_round {ended = ended} picked is) =
      decided_made before after ended reply is (round_made start contents caller tag before after ended picked)
  last_made before after reply lawful (by_note {note = note} has idle is) =
      ends_after before after note (note_made before after note has) lawful idle reply (ap reply_to_collect (sym is))

  then_ends : {before between : List Entry} (after : List Entry) (reply : CollectReply) →
      LeavesRounds start contents caller tag before between → CollectMade between after reply → CollectMade before after reply
  then_ends after reply collects.none_yet rest = rest
  then_ends {before} {between} after reply (collects.one_more {between = older} rounds off) rest =
      then_ends after reply rounds
      (goes_on_after older between off.note (note_made older between off.note off.noted) after reply rest)

  collect_made : (before after : List Entry) (reply : CollectReply) → IsLawful start contents after →
      MakesCollectFor start contents caller tag before after (Ok reply) → CollectMade before after reply
  collect_made before after reply lawful made =
      then_ends after reply made.rounds (last_made made.between after reply lawful made.last)

pub collects_among : CollectsAmongAreCollects
collects_among start contents channels channel caller tag before after reply lawful makes =
    let made = collect_made start contents caller tag before after reply lawful makes in
    record {
      steps = made.steps;
      are_steps = made.are_steps;
      of_verb = own_steps channel _ _ made.is_collect;
      decide = own_fact channel _ made.reply_is;
      one_fault = made.one_fault;
    }
