-- A write among the entries of others: programs that answered FAIL, and rounds that make room, and then one entry that ends it,
-- or a round in which a die's call failed. Each pick has a cause lately: the past at which the write's own step needed room.
use Rattle.std.proofs.Common.{◌≡◌, ℕ, ◌≤◌, ◌/◌, ◌%◌, Bool, true, false, List, [], ◌∷◌, ◌++◌, Option, Some, None, refl, sym, subst, ◌∙◌, ap, inl, inr, append_assoc, arith}
use Rattle.std.specs.Prelude.{Ok, flat_map}
use Rattle.std.specs.List.{list_all}
use Rattle.std.proofs.lemmas.List.Elements.{All-cons, All-nil}
use Rattle.std.proofs.lemmas.List.Folds.{list_all-append}
use Rattle.std.proofs.lemmas.Option.{none-some}
use Rattle.chan_calls.specs.Caller.{CallerView}
use Rattle.chan_calls.specs.Stepping.{MakesWrite}
use Rattle.chan_state.specs.declared.answers.WriteAnswer.{WriteAnswer}
use Rattle.chan_state.specs.declared.answers.WriteAnswer.TheVariants as write
use Rattle.ssd_geo.specs.Ladder.{LadderState}
use Rattle.ssd_geo.specs.declared.entry.Entry.{Entry}
use Rattle.ssd_geo.specs.declared.kind.Kind.{Kind}
use Rattle.ssd_geo.specs.declared.reply.Reply.{Reply}
use Rattle.ssd_geo.specs.declared.tag.Tag.{Tag}
use Rattle.ssd_histories.specs.CallSteps.{CallStep, is_pick, late_pasts_of}
use Rattle.ssd_histories.specs.Replies.{write_decided, write_reply}
use Rattle.ssd_histories.specs.Rounds.{IsWrite, IsWriteEnd, IsWritePart, has_cause_to_pick, has_fault, is_write_end, needs_room}
use Rattle.ssd_histories.specs.SerialCalls.{entry_of}
use Rattle.ssd_histories.specs.Start.{Start}
use Rattle.std.specs.List.{list_any}
use Rattle.collector.specs.AloneReplies.{reply_to_write}
use Rattle.collector.specs.Emptying.{OfBase, having_seen}
use Rattle.collector.specs.Writes.{EndsWrite, HasMadeRoom, IsToWrite, MakesWriteFor, WritesOften, WritesOn, by_fail, by_room, by_write, reply_of_round, reply_of_write}
use Rattle.collector.specs.Writes as turns
use Rattle.collector.specs.declared.replies.RoundReply.{RoundReply}
use Rattle.collector.specs.declared.replies.RoundReply.TheVariants as round
use Rattle.collector.specs.declared.replies.WriteReply.{WriteReply}
use Rattle.collector.specs.declared.replies.WriteReply.TheVariants as written
use Rattle.serial_laws.proofs.MadeRounds.{faults_join}
use Rattle.serial_laws.proofs.MadeSteps.{faults_in}
use Rattle.serial_laws.proofs.MadeWrites.{one_fault_in_one}
use Rattle.calls_among_others.specs.CallsAmong.{ladders}
use Rattle.calls_among_others.specs.Parts.{is_round_fault}
use Rattle.calls_among_others.specs.StepsAmong.{AreStepsAmong, HasCome}
use Rattle.calls_among_others.specs.WholeCalls.{WritesAmongAreWrites}
use Rattle.calls_among_others.proofs.AmongCopies.{came, one_made}
use Rattle.calls_among_others.proofs.AmongHosts.{own_fact, own_steps}
use Rattle.calls_among_others.proofs.AmongRounds.{RoundMade, round_made}
use Rattle.calls_among_others.proofs.AmongSteps.{among_join, came_same, came_then, steps_later}
use Rattle.calls_among_others.proofs.LookSteps.{decided_last, made_step, no_pick_all, none_first}
use Rattle.collector.proofs.AloneReplies.{in_write, round_faults, round_goes_on}
use Rattle.shared_lemmas.proofs.Tests.{same_number}

-- what a write's answer to its caller decides
as_write : Option WriteReply → Option Reply
as_write None = None
as_write (Some reply) = Some (reply_to_write reply)

pub goes_on_faultless : (reply : RoundReply) → reply_of_round reply ≡ None → is_round_fault reply ≡ false
goes_on_faultless (round.Erased sb) e = refl
goes_on_faultless (round.Retired sb) e = refl
goes_on_faultless (round.DieFault die) e = absurd (none-some (written.DieFault die) (sym e))
goes_on_faultless round.Left e = refl

ends_with_fault : (ended : RoundReply) (reply : WriteReply) → reply_of_round ended ≡ Some reply → is_round_fault ended ≡ true
ends_with_fault (round.Erased sb) reply e = absurd (none-some reply e)
ends_with_fault (round.Retired sb) reply e = absurd (none-some reply e)
ends_with_fault (round.DieFault die) reply e = refl
ends_with_fault round.Left reply e = absurd (none-some reply e)

module _ (start : Start) (contents : List (Tag × List ℕ)) (caller : CallerView) (tag : Tag) (row : ℕ) where
  abbrev ladder : List Entry → ℕ → LadderState
  ladder = ladders start contents

  abbrev cause : CallStep → Bool
  cause step = list_any (needs_room start.base) (late_pasts_of step)

  -- a write, or what of it is left to make
  record WriteMade (before after : List Entry) (reply : WriteReply) : Type 0 where
    steps : List CallStep
    are_steps : AreStepsAmong tag before steps after
    is_write : IsWrite ladder start.base row steps
    one_fault : faults_in steps ≤ 1
    reply_is : write_reply steps ≡ Some (reply_to_write reply)

  -- its last part
  last_part : (before after : List Entry) (reply : WriteReply) (steps : List CallStep) → AreStepsAmong tag before steps after →
      IsWriteEnd ladder start.base row steps → list_all (has_cause_to_pick start.base) steps ≡ true → faults_in steps ≤ 1 →
      write_reply steps ≡ Some (reply_to_write reply) → WriteMade before after reply
  last_part before after reply steps are ends causes few reply_is = record {
    steps = steps;
    are_steps = are;
    is_write = record {
      parts = [];
      last = steps;
      are_steps = refl;
      are_parts = All-nil (IsWritePart ladder start.base row);
      ends = ends;
      have_cause = causes;
    };
    one_fault = few;
    reply_is = reply_is;
  }

  -- a part before it
  part_before : (before between after : List Entry) (reply : WriteReply) (part : List CallStep) →
      AreStepsAmong tag before part between → IsWritePart ladder start.base row part →
      list_all (has_cause_to_pick start.base) part ≡ true → has_fault part ≡ false → write_reply part ≡ None →
      WriteMade between after reply → WriteMade before after reply
  part_before before between after reply part are is_part causes no_fault undecided rest =
      let write : IsWrite ladder start.base row rest.steps = rest.is_write in
      record {
        steps = part ++ rest.steps;
        are_steps = among_join tag before between after part rest.steps are rest.are_steps;
        is_write = record {
          parts = part ∷ write.parts;
          last = write.last;
          are_steps =
              ap (λ (steps : List CallStep). part ++ steps) write.are_steps
              ∙ sym (append_assoc part (flat_map (λ part. part) write.parts) write.last);
          are_parts = All-cons (IsWritePart ladder start.base row) part write.parts is_part write.are_parts;
          ends = write.ends;
          have_cause = list_all-append (has_cause_to_pick start.base) part rest.steps ∙ rw causes write.have_cause;
        };
        one_fault = let sums = faults_join part rest.steps no_fault in let few = rest.one_fault in omega (arith, sums, few);
        reply_is = none_first (λ step. write_decided step.entry.kind) part rest.steps undecided ∙ rest.reply_is;
      }

  -- an entry that ends it
  last_entry : (kind : Kind) (before now after : List Entry) (reply : WriteReply) → HasCome tag.actor before now →
      after ≡ entry_of tag kind ∷ now → is_write_end row kind ≡ true → is_pick kind ≡ false →
      write_decided kind ≡ Some (reply_to_write reply) → WriteMade before after reply
  last_entry kind before now after reply found is ends no_pick decides =
      last_part before after reply (made_step tag kind now ∷ []) (one_made tag kind before now after found is) (inl ends)
      (no_pick_all cause (made_step tag kind now ∷ []) (rw no_pick refl)) (one_fault_in_one tag kind now)
      (decided_last (write_decided kind) ∙ decides)

  ended_by : (answer : WriteAnswer) (before now after : List Entry) (reply : WriteReply) → HasCome tag.actor before now →
      reply_of_write answer ≡ Some reply → MakesWrite (OfBase start.base) tag row now answer after →
      WriteMade before after reply
  unfolding as_write
  ended_by (write.Written slot) before now after reply found is made =
      last_entry (Kind.Write row slot) before now after reply found made.0 (same_number row) refl (ap as_write is)
  ended_by (write.DieFault die) before now after reply found is made =
      last_entry (Kind.BadWrite row made.0 die true) before now after reply found made.1 (same_number row) refl (ap as_write is)
  ended_by write.ReadOnly before now after reply found is made =
      last_entry (Kind.Refused row true) before now after reply found made.0 (same_number row) refl (ap as_write is)
  ended_by write.Full before now after reply found is made =
      last_entry (Kind.Refused row false) before now after reply found made.0 (same_number row) refl (ap as_write is)
  ended_by (write.Failed sb) before now after reply found is made = absurd (none-some reply is)
  ended_by write.NeedRoom before now after reply found is made = absurd (none-some reply is)

  -- a round that makes room, with the cause of its pick
  record RoomMade (before after : List Entry) (reply : RoundReply) : Type 0 where
    needed : List Entry
    found : HasCome tag.actor before needed
    round : RoundMade start contents caller tag needed after reply
    needs : needs_room start.base needed ≡ true

  room_made : (before after : List Entry) (reply : RoundReply) →
      HasMadeRoom start contents caller tag row before after (Ok reply) → RoomMade before after reply
  room_made before after reply made =
      let now : List Entry = made.tried.0 in
      let needs = made.tried.3 in
      record {
        needed = made.needed;
        found =
            came_then tag.actor before now made.needed (came (having_seen caller before) tag now made.tried.1)
            (came_same tag.actor now made.needed needs.0);
        round = round_made start contents caller tag made.needed after reply made.round;
        needs = subst (λ (past : List Entry). needs_room start.base past ≡ true) (sym needs.0) needs.1;
      }

  room_steps : (before after : List Entry) (reply : RoundReply) (room : RoomMade before after reply) →
      AreStepsAmong tag before room.round.steps after
  room_steps before after reply room =
      steps_later tag before room.needed after room.round.steps room.found room.round.are_steps

  goes_on : (before between after : List Entry) (reply : WriteReply) → WritesOn start contents caller tag row before between →
      WriteMade between after reply → WriteMade before after reply
  goes_on before between after reply (by_fail sb tried) rest =
      let made = tried.3 in
      let kind : Kind = Kind.BadWrite row made.0 made.1 false in
      part_before before between after reply (made_step tag kind tried.0 ∷ [])
      (one_made tag kind before tried.0 between (came (having_seen caller before) tag tried.0 tried.1) made.3)
      (inl (same_number row)) refl refl refl rest
  goes_on before between after reply (by_room ended made is) rest =
      let room : RoomMade before between ended = room_made before between ended made in
      let no_fault : has_fault room.round.steps ≡ false = room.round.decides.fault_is ∙ goes_on_faultless ended is in
      part_before before between after reply room.round.steps (room_steps before between ended room)
      (inr (record { is_round = room.round.is_round; no_fault = rw no_fault refl }))
      (room.round.have_cause (needs_room start.base) room.needs) no_fault
      (room.round.decides.writes_is ∙ round_goes_on ended is) rest

  then_ends : {before between : List Entry} (after : List Entry) (reply : WriteReply) →
      WritesOften start contents caller tag row before between → WriteMade between after reply → WriteMade before after reply
  then_ends after reply turns.none_yet rest = rest
  then_ends {before} {between} after reply (turns.one_more {between = older} often on) rest =
      then_ends after reply often (goes_on older between after reply on rest)

  ends_made : (before after : List Entry) (reply : WriteReply) → EndsWrite start contents caller tag row before after reply →
      WriteMade before after reply
  ends_made before after reply (by_write answer tried is) =
      ended_by answer before tried.0 after reply (came (having_seen caller before) tag tried.0 tried.1) is tried.3
  ends_made before after reply (turns.by_round ended made is) =
      let room : RoomMade before after ended = room_made before after ended made in
      last_part before after reply room.round.steps (room_steps before after ended room)
      (inr (record {
        is_round = room.round.is_round;
        fault = room.round.decides.fault_is ∙ ends_with_fault ended reply is;
      }))
      (room.round.have_cause (needs_room start.base) room.needs) room.round.one_fault
      (room.round.decides.writes_is ∙ round_faults ended reply is)

  write_made : (before after : List Entry) (reply : WriteReply) →
      MakesWriteFor start contents caller tag row before after (Ok reply) → WriteMade before after reply
  write_made before after reply made =
      then_ends after reply made.turns (ends_made made.between after reply made.last)

pub writes_among : WritesAmongAreWrites
writes_among start contents channels page content caller tag before after reply makes =
    let made = write_made start contents caller tag (page / channels) before after reply makes in
    record {
      steps = made.steps;
      are_steps = made.are_steps;
      of_verb = own_steps (page % channels) _ _ made.is_write;
      decide = own_fact (page % channels) _ made.reply_is;
      one_fault = made.one_fault;
    }
