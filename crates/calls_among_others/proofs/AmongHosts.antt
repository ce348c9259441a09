-- Trims, ageings and reads among the entries of others: one entry, or a look with its senses and its leave.
use Rattle.std.proofs.Common.{◌≡◌, ℕ, ◌/◌, ◌%◌, ◌==◌, Bool, true, false, List, [], ◌∷◌, length, Option, Some, None, refl, sym, subst, ◌∙◌, ap, inl, inr}
use Rattle.std.proofs.lemmas.Option.{none-some}
use Rattle.ssd_geo.specs.Ladder.{LadderState, asks, has_answer, recovered, uncorrectable}
use Rattle.ssd_geo.specs.declared.entry.Entry.{Entry}
use Rattle.ssd_geo.specs.declared.kind.Kind.{Kind}
use Rattle.ssd_geo.specs.declared.reply.Reply.{Reply}
use Rattle.ssd_geo.specs.declared.row.Row.{Row}
use Rattle.ssd_geo.specs.declared.tag.Tag.{Tag}
use Rattle.ssd_geo.specs.declared.trace.Verb.{Verb}
use Rattle.ssd_histories.specs.CallSteps.{CallStep}
use Rattle.ssd_histories.specs.CallsInOrder.{OnOwnChannel}
use Rattle.ssd_histories.specs.Copies.{IsRead}
use Rattle.ssd_histories.specs.Replies.{read_decided, read_reply, reply_of_ladder}
use Rattle.ssd_histories.specs.SerialCalls.{entry_of}
use Rattle.ssd_histories.specs.ServedCalls.{after_lone_look, after_look, reply_to_none}
use Rattle.ssd_histories.specs.Start.{Start}
use Rattle.chan_state.specs.declared.answers.AgeAnswer.{AgeAnswer}
use Rattle.chan_state.specs.declared.answers.AgeAnswer.TheVariants as age
use Rattle.chan_calls.specs.Caller.{CallerView}
use Rattle.chan_calls.specs.Calls.{HasFailed, HasLooked, ReadsFor}
use Rattle.chan_calls.specs.Stepping.{MakesAge}
use Rattle.serial_laws.proofs.LookLists.{read_has_one_fault}
use Rattle.serial_laws.proofs.MadeWrites.{one_fault_in_one}
use Rattle.calls_among_others.specs.CallsAmong.{IsCallAmong, OnOwn, ladders}
use Rattle.calls_among_others.specs.HostCalls.{AgesAmongAreAges, ReadsAmongAreReads, TrimsAmongAreTrims, reply_to_age}
use Rattle.calls_among_others.specs.StepsAmong.{AreStepsAmong, HasCome}
use Rattle.calls_among_others.proofs.AmongCopies.{SensesMade, came, leave_made, look_list, look_made, one_made, senses_made}
use Rattle.calls_among_others.proofs.AmongSteps.{none_came}
use Rattle.calls_among_others.proofs.LookSteps.{DecidesEnd, decided_first, ended_reply, left_reply, look_steps, made_step}
use Rattle.shared_lemmas.proofs.Tests.{same_number}

-- what holds of a call's own channel
pub own_steps : (n : ℕ) (fact : Type 0) (steps : List CallStep) → fact → OnOwnChannel (n == n) fact steps
own_steps n fact steps holds = subst (λ (b : Bool). OnOwnChannel b fact steps) (sym (same_number n)) holds

pub own_fact : (n : ℕ) (fact : Type 0) → fact → OnOwn (n == n) fact
own_fact n fact holds = subst (λ (b : Bool). OnOwn b fact) (sym (same_number n)) holds

pub trims_among : TrimsAmongAreTrims
trims_among start contents channels page old new tag answer made = record {
  steps = made_step tag (Kind.Trim (page / channels)) made.0 ∷ [];
  are_steps = one_made tag (Kind.Trim (page / channels)) old.seen made.0 new.seen (came old tag made.0 made.1) made.3;
  of_verb = own_steps (page % channels) _ _ (same_number (page / channels));
  decide = own_fact (page % channels) _ refl;
  one_fault = one_fault_in_one tag (Kind.Trim (page / channels)) made.0;
}

module _ (start : Start) (contents : List (Tag × List ℕ)) (channels channel die sb amount : ℕ) (tag : Tag) where
  aged_by : (answer : AgeAnswer) (seen now after : List Entry) → HasCome tag.actor seen now →
      MakesAge tag die sb amount now answer after →
      IsCallAmong start contents channels channel tag (Verb.Age channel die sb amount) seen after (reply_to_age answer)
  aged_by age.Aged seen now after found is = record {
    steps = made_step tag (Kind.Age die sb amount) now ∷ [];
    are_steps = one_made tag (Kind.Age die sb amount) seen now after found is;
    of_verb = own_steps channel _ _ (rw (same_number die, same_number sb, same_number amount) refl);
    decide = own_fact channel _ refl;
    one_fault = one_fault_in_one tag (Kind.Age die sb amount) now;
  }
  aged_by (age.DieFault failed) seen now after found made = record {
    steps = made_step tag (Kind.FaultAge die sb amount) now ∷ [];
    are_steps = one_made tag (Kind.FaultAge die sb amount) seen now after found made.1;
    of_verb = own_steps channel _ _ (rw (same_number die, same_number sb, same_number amount) refl);
    decide = own_fact channel _ (ap (λ (d : ℕ). Some (Reply.DieFault d)) (sym made.0));
    one_fault = one_fault_in_one tag (Kind.FaultAge die sb amount) now;
  }

pub ages_among : AgesAmongAreAges
ages_among start contents channels channel die sb amount old new tag answer made =
    aged_by start contents channels channel die sb amount tag answer old.seen made.0 new.seen (came old tag made.0 made.1)
    made.3

-- a ladder that gives a reply has its answer
replies_answered : (bytes : ℕ) (state : LadderState) (reply : Reply) → reply_of_ladder bytes state ≡ Some reply →
    has_answer state ≡ true
replies_answered bytes (asks place level) reply is = absurd (none-some reply is)
replies_answered bytes (recovered rung word) reply is = refl
replies_answered bytes uncorrectable reply is = refl

read_ends : (bytes : ℕ) (ladder : List Entry → ℕ → LadderState) → DecidesEnd (read_decided bytes ladder)
read_ends bytes ladder = record {
  of_look = λ past row slot serial closed. refl;
  of_sense = λ past at place level. refl;
}

-- the steps of a read, with its reply
record IsReadAmong (start : Start) (contents : List (Tag × List ℕ)) (tag : Tag) (row : ℕ) (before after : List Entry)
    (reply : Reply) : Type 0 where
  steps : List CallStep
  are_steps : AreStepsAmong tag before steps after
  is_read : IsRead (ladders start contents) row steps
  reply_is : read_reply start.base.shape.bytes (ladders start contents) steps ≡ Some reply

module _ (start : Start) (contents : List (Tag × List ℕ)) (caller : CallerView) (tag : Tag) (row : ℕ) where
  none_found : (found : Row) (now after : List Entry) (reply : Reply) → HasCome tag.actor caller.seen now →
      reply_to_none found ≡ Some reply → after ≡ after_lone_look tag row found now →
      IsReadAmong start contents tag row caller.seen after reply
  none_found Row.Empty now after reply found reply_is is = record {
    steps = made_step tag (Kind.Look row Row.Empty false) now ∷ [];
    are_steps = one_made tag (Kind.Look row Row.Empty false) caller.seen now after found is;
    is_read = inl (same_number row);
    reply_is = reply_is;
  }
  none_found Row.Lost now after reply found reply_is is = record {
    steps = made_step tag (Kind.Look row Row.Lost false) now ∷ [];
    are_steps = one_made tag (Kind.Look row Row.Lost false) caller.seen now after found is;
    is_read = inl (same_number row);
    reply_is = reply_is;
  }
  none_found (Row.Page slot serial) now after reply found reply_is is = absurd (none-some reply reply_is)

  module _ (look : HasLooked caller tag row) where
    abbrev at : ℕ
    at = length look.at_look

    abbrev bytes : ℕ
    bytes = start.base.shape.bytes

    sensed : SensesMade tag at (after_look tag row look.slot look.serial look.closed look.at_look) look.senses.after
    sensed =
        senses_made caller tag at look.senses.senses (after_look tag row look.slot look.serial look.closed look.at_look)
        look.senses.after look.senses.are_senses

    abbrev steps_with : List CallStep → List Entry → List CallStep
    steps_with ending at_leave =
        look_steps tag row look.slot look.serial look.closed look.at_look at_leave at sensed.steps sensed.are_senses ending

    page_read : (at_leave after : List Entry) (reply : Reply) →
        AreStepsAmong tag look.senses.after (made_step tag (Kind.Leave at) at_leave ∷ []) after →
        reply_of_ladder bytes (ladders start contents at_leave at) ≡ Some reply →
        IsReadAmong start contents tag row caller.seen after reply
    page_read at_leave after reply left reply_is = record {
      steps = steps_with [] at_leave;
      are_steps =
          look_made tag row look.slot look.serial look.closed look.at_look look.senses.after look.senses.after at_leave after
          sensed [] (none_came tag.actor look.senses.after) left caller.seen (came caller tag look.at_look look.comes);
      is_read = inr (record {
        look = made_step tag (Kind.Look row (Row.Page look.slot look.serial) look.closed) look.at_look;
        ending = [];
        leave = made_step tag (Kind.Leave at) at_leave;
        is_list = look_list tag row look.slot look.serial look.closed look.at_look look.senses.after at_leave sensed [];
        of_row = same_number row;
        ends = replies_answered bytes (ladders start contents at_leave at) reply reply_is;
      });
      reply_is =
          left_reply tag row look.slot look.serial look.closed look.at_look at_leave at sensed.steps sensed.are_senses
          (read_decided bytes (ladders start contents)) (read_ends bytes (ladders start contents))
          ∙ ap (λ (o : Option Reply). decided_first o None) reply_is;
    }

    fault_read : (after : List Entry) (reply : Reply) (die : ℕ) →
        HasFailed caller tag at look.senses.after after die → reply ≡ Reply.DieFault die →
        IsReadAmong start contents tag row caller.seen after reply
    fault_read after reply die fails reply_is =
        let fault : Kind = Kind.FaultSense at fails.place fails.level in
        let ending : List CallStep = made_step tag fault fails.at_sense ∷ [] in
        let ended : List Entry = entry_of tag fault ∷ fails.at_sense in
        let at_leave : List Entry = fails.leaves.at_leave in
        record {
          steps = steps_with ending at_leave;
          are_steps =
              look_made tag row look.slot look.serial look.closed look.at_look look.senses.after ended at_leave after sensed
              ending
              (one_made tag fault look.senses.after fails.at_sense ended
              (came (record caller { seen = look.senses.after }) tag fails.at_sense fails.comes) refl)
              (leave_made caller tag at ended after fails.leaves) caller.seen (came caller tag look.at_look look.comes);
          is_read = inr (record {
            look = made_step tag (Kind.Look row (Row.Page look.slot look.serial) look.closed) look.at_look;
            ending = ending;
            leave = made_step tag (Kind.Leave at) at_leave;
            is_list = look_list tag row look.slot look.serial look.closed look.at_look look.senses.after at_leave sensed ending;
            of_row = same_number row;
            ends = same_number at;
          });
          reply_is =
              ended_reply tag row look.slot look.serial look.closed look.at_look at_leave at sensed.steps sensed.are_senses
              (read_decided bytes (ladders start contents)) (read_ends bytes (ladders start contents)) fault fails.at_sense
              ∙ ap (λ (d : ℕ). Some (Reply.DieFault d)) (sym fails.die_is) ∙ ap Some (sym reply_is);
        }

  read_so : (after : List Entry) (reply : Reply) → ReadsFor start contents caller tag row after reply →
      IsReadAmong start contents tag row caller.seen after reply
  read_so after reply (inl found) =
      none_found found.found found.at_look after reply (came caller tag found.at_look found.comes) found.reply_is found.new_is
  read_so after reply (inr (inl read)) =
      page_read read.look read.leaves.at_leave after reply
      (leave_made caller tag (length read.look.at_look) read.look.senses.after after read.leaves) read.reply_is
  read_so after reply (inr (inr failed)) = fault_read failed.look after reply failed.die failed.fails failed.reply_is

pub reads_among : ReadsAmongAreReads
reads_among start contents channels page caller tag after reply reads =
    let read : IsReadAmong start contents tag (page / channels) caller.seen after reply =
    read_so start contents caller tag (page / channels) after reply reads in
    record {
      steps = read.steps;
      are_steps = read.are_steps;
      of_verb = own_steps (page % channels) _ _ read.is_read;
      decide = own_fact (page % channels) _ read.reply_is;
      one_fault = read_has_one_fault (ladders start contents) (page / channels) read.steps read.is_read;
    }
