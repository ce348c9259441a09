-- A copy of the page of a look, among the entries of others: its look, senses, what became of the page, and its leave. What the
-- kind of the last but one of its steps says of the copy's reply is told once for copies of all kinds.
use Rattle.std.proofs.Common.{◌≡◌, ℕ, ◌==◌, ◌&&◌, ◌||◌, Bool, true, false, List, [], ◌∷◌, ◌++◌, length, Option, Some, None, ◌⊎◌, refl, sym, subst, ◌∙◌, ap, inl, inr}
use Rattle.std.specs.Prelude.{ℤ}
use Rattle.std.specs.List.{list_all, list_any}
use Rattle.chan_state.specs.declared.answers.MoveAnswer.{MoveAnswer}
use Rattle.chan_state.specs.declared.answers.MoveAnswer.TheVariants as move
use Rattle.chan_tables.specs.declared.answers.CondemnAnswer.{CondemnAnswer}
use Rattle.chan_tables.specs.declared.answers.CondemnAnswer.TheVariants as condemn
use Rattle.ssd_histories.specs.CallSteps.{CallStep, is_erase_or_bad_erase, is_fault, is_pick, is_sense_of, is_stay}
use Rattle.ssd_histories.specs.Copies.{IsCopy, IsLookList, is_copy_end, is_refresh_end}
use Rattle.ssd_histories.specs.Replies.{collect_decided, refresh_decided, write_decided}
use Rattle.ssd_histories.specs.SerialCalls.{entry_of}
use Rattle.ssd_histories.specs.Start.{Start}
use Rattle.ssd_geo.specs.Ladder.{LadderState, is_recovered, is_uncorrectable}
use Rattle.ssd_geo.specs.declared.entry.Entry.{Entry}
use Rattle.ssd_geo.specs.declared.kind.Kind.{Kind}
use Rattle.ssd_geo.specs.declared.look.Look.{Look}
use Rattle.ssd_geo.specs.declared.place.Place.{Place}
use Rattle.ssd_geo.specs.declared.reply.Reply.{Reply}
use Rattle.ssd_geo.specs.declared.row.Row.{Row}
use Rattle.ssd_geo.specs.declared.slot.Slot.{Slot}
use Rattle.ssd_geo.specs.declared.tag.Tag.{Tag}
use Rattle.chan_calls.specs.Caller.{AddsKinds, CallerView, Comes}
use Rattle.chan_calls.specs.Calls.{HasSenses, IsLeft, sense_kinds}
use Rattle.chan_calls.specs.Copied.{CopiesFor, HasCopyFailed, HasJustLooked, IsCondemned, IsMoved, is_die_fault, is_round_end, refresh_of_copy, reply_of_condemn, reply_of_move, step_of_look}
use Rattle.chan_calls.specs.Moving.{MakesCondemn, MakesMove}
use Rattle.chan_calls.specs.declared.copy_reply.CopyReply.{CopyReply}
use Rattle.chan_calls.specs.declared.copy_reply.CopyReply.TheVariants as copy
use Rattle.chan_calls.proofs.SensedSteps.{both}
use Rattle.calls_among_others.specs.Parts.{CopiesAmongAreCopies}
use Rattle.calls_among_others.specs.CallsAmong.{ladders}
use Rattle.calls_among_others.specs.StepsAmong.{AreStepsAmong, HasCome}
use Rattle.calls_among_others.proofs.AmongSteps.{among_join, came_same, none_came}
use Rattle.calls_among_others.proofs.LookSteps.{TestsEnd, ended_any, look_steps, made_step}
use Rattle.std.proofs.lemmas.Bool.{or_left, or_right}
use Rattle.shared_lemmas.proofs.Tests.{same_number}

-- what a caller's step found came to what it had seen
pub came : (caller : CallerView) (tag : Tag) (now : List Entry) → Comes caller tag now → HasCome tag.actor caller.seen now
came caller tag now comes = record { others = comes.others; after_is = comes.now_is; of_others = comes.of_others }

-- one step, made upon the past that it found
pub one_made : (tag : Tag) (kind : Kind) (before now after : List Entry) → HasCome tag.actor before now →
    after ≡ entry_of tag kind ∷ now → AreStepsAmong tag before (made_step tag kind now ∷ []) after
one_made tag kind before now after came is = (came, refl, came_same tag.actor (entry_of tag kind ∷ now) after is)

-- the steps of some senses of a look
pub record SensesMade (tag : Tag) (at : ℕ) (before after : List Entry) : Type 0 where
  pub steps : List CallStep
  pub are_steps : AreStepsAmong tag before steps after
  pub are_senses : list_all (λ step. is_sense_of at step.entry.kind) steps ≡ true

pub senses_made : (caller : CallerView) (tag : Tag) (at : ℕ) (senses : List (Place × ℤ)) (before after : List Entry) →
    AddsKinds caller tag (sense_kinds at senses) before after → SensesMade tag at before after
senses_made caller tag at [] before after is =
    record { steps = []; are_steps = came_same tag.actor before after is; are_senses = refl }
senses_made caller tag at (asked ∷ senses) before after adds =
    let kind : Kind = Kind.Sense at asked.0 asked.1 in
    let rest : SensesMade tag at (entry_of tag kind ∷ adds.0) after =
    senses_made caller tag at senses (entry_of tag kind ∷ adds.0) after adds.2 in
    record {
      steps = made_step tag kind adds.0 ∷ rest.steps;
      are_steps = (came (record caller { seen = before }) tag adds.0 adds.1, refl, rest.are_steps);
      are_senses =
          both (at == at) (list_all (λ step. is_sense_of at step.entry.kind) rest.steps) (same_number at) rest.are_senses;
    }

-- the leave of a look
pub leave_made : (caller : CallerView) (tag : Tag) (at : ℕ) (before after : List Entry)
    (leaves : IsLeft caller tag at before after) →
    AreStepsAmong tag before (made_step tag (Kind.Leave at) leaves.at_leave ∷ []) after
leave_made caller tag at before after leaves =
    one_made tag (Kind.Leave at) before leaves.at_leave after
    (came (record caller { seen = before }) tag leaves.at_leave leaves.comes) leaves.new_is

-- the steps of a look that found a page, with some between its senses and its leave
module _ (tag : Tag) (row : ℕ) (slot : Slot) (serial : ℕ) (closed : Bool) (before : List Entry) where
  abbrev pub looked : List Entry
  looked = entry_of tag (Kind.Look row (Row.Page slot serial) closed) ∷ before

  abbrev pub at_look : ℕ
  at_look = length before

  pub look_made : (sensed ended at_leave after : List Entry) (senses : SensesMade tag at_look looked sensed)
      (ending : List CallStep) → AreStepsAmong tag sensed ending ended →
      AreStepsAmong tag ended (made_step tag (Kind.Leave at_look) at_leave ∷ []) after →
      (seen : List Entry) → HasCome tag.actor seen before →
      AreStepsAmong tag seen
      (look_steps tag row slot serial closed before at_leave at_look senses.steps senses.are_senses ending) after
  look_made sensed ended at_leave after senses ending ended_so left seen found = (
    found,
    refl,
    among_join tag looked ended after (senses.steps ++ ending) (made_step tag (Kind.Leave at_look) at_leave ∷ [])
        (among_join tag looked sensed ended senses.steps ending senses.are_steps ended_so) left,
  )

  pub look_list : (sensed at_leave : List Entry) (senses : SensesMade tag at_look looked sensed) (ending : List CallStep) →
      IsLookList
      (look_steps tag row slot serial closed before at_leave at_look senses.steps senses.are_senses ending)
      (made_step tag (Kind.Look row (Row.Page slot serial) closed) before) ending
      (made_step tag (Kind.Leave at_look) at_leave)
  look_list sensed at_leave senses ending = record {
    senses = senses.steps;
    are_steps = refl;
    finds_page = refl;
    are_senses = senses.are_senses;
    is_left = same_number at_look;
  }

-- the reply of a call that a copy decides: a die's call failed in it
unfoldable pub fault_of : CopyReply → Option Reply
fault_of (copy.DieFault die) = Some (Reply.DieFault die)
fault_of copy.Moved = None
fault_of copy.Changed = None
fault_of copy.Condemned = None
fault_of copy.Uncorrectable = None
fault_of copy.NoRoom = None
fault_of copy.ReadOnly = None
fault_of copy.Failed = None

-- What stands between the senses of a copy and its leave: an entry upon a past, which ends the copy and its round as the reply
-- says, and decides of a write and a collect what a failed call does.
pub record Ends (ladder : List Entry → ℕ → LadderState) (tag : Tag) (at : ℕ) (past ended : List Entry) (reply : CopyReply)
    : Type 0 where
  pub kind : Kind
  pub ended_is : ended ≡ entry_of tag kind ∷ past
  pub round : (is_stay kind || is_fault kind) ≡ is_round_end reply
  pub fault : is_fault kind ≡ is_die_fault reply
  pub no_pick : is_pick kind ≡ false
  pub no_erase : is_erase_or_bad_erase kind ≡ false
  pub writes : write_decided kind ≡ fault_of reply
  pub collects : collect_decided kind ≡ fault_of reply
  pub copy : is_copy_end ladder at (made_step tag kind past) ≡ true

-- and which may stand in a refresh, whose reply it decides
pub record Refreshes (ladder : List Entry → ℕ → LadderState) (tag : Tag) (at : ℕ) (past ended : List Entry)
    (reply : CopyReply) : Type 0 where
  pub ends : Ends ladder tag at past ended reply
  pub refresh : is_refresh_end ladder at (made_step tag ends.kind past) ≡ true
  pub decided : refresh_decided ladder past ends.kind ≡ Some (refresh_of_copy reply)

module _ (ladder : List Entry → ℕ → LadderState) (tag : Tag) (at : ℕ) (past ended : List Entry) where
  module _ (is : is_recovered (ladder past at) ≡ true) where
    recovers : (is_recovered (ladder past at) && (at == at)) ≡ true
    recovers = both (is_recovered (ladder past at)) (at == at) is (same_number at)

    ends_recovered : (rest : Bool) → ((is_recovered (ladder past at) && (at == at)) || rest) ≡ true
    ends_recovered rest = or_left (is_recovered (ladder past at) && (at == at)) rest recovers

    move_ends : (answer : MoveAnswer) → MakesMove tag at past answer ended →
        Refreshes ladder tag at past ended (reply_of_move answer)
    unfolding fault_of
    move_ends (move.Changed row) made = record {
      ends = record {
        kind = Kind.Changed at row;
        ended_is = made;
        round = refl;
        fault = refl;
        no_pick = refl;
        no_erase = refl;
        writes = refl;
        collects = refl;
        copy = ends_recovered (is_uncorrectable (ladder past at) && (at == at));
      };
      refresh = recovers;
      decided = refl;
    }
    move_ends move.ReadOnly made = record {
      ends = record {
        kind = Kind.Stay at true;
        ended_is = made;
        round = refl;
        fault = refl;
        no_pick = refl;
        no_erase = refl;
        writes = refl;
        collects = refl;
        copy = ends_recovered (is_uncorrectable (ladder past at) && false);
      };
      refresh = recovers;
      decided = refl;
    }
    move_ends move.NoRoom made = record {
      ends = record {
        kind = Kind.Stay at false;
        ended_is = made;
        round = refl;
        fault = refl;
        no_pick = refl;
        no_erase = refl;
        writes = refl;
        collects = refl;
        copy = ends_recovered (is_uncorrectable (ladder past at) && false);
      };
      refresh = recovers;
      decided = refl;
    }
    move_ends (move.Moved slot) made = record {
      ends = record {
        kind = Kind.Move at slot;
        ended_is = made;
        round = refl;
        fault = refl;
        no_pick = refl;
        no_erase = refl;
        writes = refl;
        collects = refl;
        copy = ends_recovered (is_uncorrectable (ladder past at) && false);
      };
      refresh = recovers;
      decided = refl;
    }
    move_ends (move.Failed sb) made = record {
      ends = record {
        kind = Kind.BadCopy at made.0 made.1 false;
        ended_is = made.3;
        round = refl;
        fault = refl;
        no_pick = refl;
        no_erase = refl;
        writes = refl;
        collects = refl;
        copy = ends_recovered (is_uncorrectable (ladder past at) && false);
      };
      refresh = recovers;
      decided = refl;
    }
    move_ends (move.DieFault die) made = record {
      ends = record {
        kind = Kind.BadCopy at made.0 die true;
        ended_is = made.1;
        round = refl;
        fault = refl;
        no_pick = refl;
        no_erase = refl;
        writes = refl;
        collects = refl;
        copy = ends_recovered (is_uncorrectable (ladder past at) && false);
      };
      refresh = recovers;
      decided = refl;
    }

  module _ (is : is_uncorrectable (ladder past at) ≡ true) where
    ends_uncorrectable : (a : Bool) → (a || (is_uncorrectable (ladder past at) && (at == at))) ≡ true
    ends_uncorrectable a =
        or_right a (is_uncorrectable (ladder past at) && (at == at))
        (both (is_uncorrectable (ladder past at)) (at == at) is (same_number at))

    condemn_ends : (answer : CondemnAnswer) → MakesCondemn tag at past answer ended →
        Ends ladder tag at past ended (reply_of_condemn answer)
    unfolding fault_of
    condemn_ends (condemn.Changed row) made = record {
      kind = Kind.Changed at row;
      ended_is = made;
      round = refl;
      fault = refl;
      no_pick = refl;
      no_erase = refl;
      writes = refl;
      collects = refl;
      copy = ends_uncorrectable (is_recovered (ladder past at) && (at == at));
    }
    condemn_ends condemn.Condemned made = record {
      kind = Kind.Condemn at;
      ended_is = made;
      round = refl;
      fault = refl;
      no_pick = refl;
      no_erase = refl;
      writes = refl;
      collects = refl;
      copy = ends_uncorrectable (is_recovered (ladder past at) && false);
    }

  -- a sense that failed
  sense_ends : (place : Place) (level : ℤ) → ended ≡ entry_of tag (Kind.FaultSense at place level) ∷ past →
      Refreshes ladder tag at past ended (copy.DieFault place.die)
  unfolding fault_of
  sense_ends place level made = record {
    ends = record {
      kind = Kind.FaultSense at place level;
      ended_is = made;
      round = refl;
      fault = refl;
      no_pick = refl;
      no_erase = refl;
      writes = refl;
      collects = refl;
      copy =
          or_left ((at == at) || (is_recovered (ladder past at) && false)) (is_uncorrectable (ladder past at) && false)
          (or_left (at == at) (is_recovered (ladder past at) && false) (same_number at));
    };
    refresh = or_left (at == at) (is_recovered (ladder past at) && false) (same_number at);
    decided = refl;
  }

-- the steps of a look's page until just one entry ended its copy
pub record CopyEnds (start : Start) (contents : List (Tag × List ℕ)) (tag : Tag) (look : Look) (before after : List Entry)
    (reply : CopyReply) (ends : List Entry → List Entry → Type 0) : Type 0 where
  pub sensed : List Entry
  pub at_end : List Entry
  pub ended : List Entry
  pub at_leave : List Entry
  pub senses : SensesMade tag (length before) (looked tag look.row look.slot look.serial look.closed before) sensed
  pub found : HasCome tag.actor sensed at_end
  pub ends_so : ends at_end ended
  pub found_leave : HasCome tag.actor ended at_leave
  pub after_is : after ≡ entry_of tag (Kind.Leave (length before)) ∷ at_leave

-- which tests and replies only the end of a copy decides
pub stay_or_fault : TestsEnd (λ kind. is_stay kind || is_fault kind)
stay_or_fault = record { of_look = λ row slot serial closed. refl; of_sense = λ at place level. refl; of_leave = λ at. refl }

pub faults_end : TestsEnd is_fault
faults_end = record { of_look = λ row slot serial closed. refl; of_sense = λ at place level. refl; of_leave = λ at. refl }

module _ (start : Start) (contents : List (Tag × List ℕ)) (caller : CallerView) (tag : Tag) (look : Look) (before : List Entry)
    (just : HasJustLooked caller tag look before) where
  abbrev at : ℕ
  at = length before

  abbrev found_page : List Entry
  found_page = looked tag look.row look.slot look.serial look.closed before

  pub sensed_since : (senses : HasSenses caller tag at caller.seen) → SensesMade tag at found_page senses.after
  sensed_since senses =
      subst (λ (past : List Entry). SensesMade tag at past senses.after) just.seen_is
      (senses_made caller tag at senses.senses caller.seen senses.after senses.are_senses)

  -- one entry ended the copy
  abbrev pub Made : List Entry → CopyReply → Type 0
  Made after reply =
      CopyEnds start contents tag look before after reply
      (λ past ended. Ends (ladders start contents) tag at past ended reply)

  abbrev pub MadeRefresh : List Entry → CopyReply → Type 0
  MadeRefresh after reply =
      CopyEnds start contents tag look before after reply
      (λ past ended. Refreshes (ladders start contents) tag at past ended reply)

  pub moved_so : (senses : HasSenses caller tag at caller.seen) (ended after : List Entry) (reply : CopyReply) →
      IsMoved start contents caller tag at senses.after ended reply → IsLeft caller tag at ended after → MadeRefresh after reply
  moved_so senses ended after reply moved leaves = record {
    sensed = senses.after;
    at_end = moved.at_move;
    ended = ended;
    at_leave = leaves.at_leave;
    senses = sensed_since senses;
    found = came (record caller { seen = senses.after }) tag moved.at_move moved.comes;
    ends_so =
        subst (λ (given : CopyReply). Refreshes (ladders start contents) tag at moved.at_move ended given) (sym moved.reply_is)
        (move_ends (ladders start contents) tag at moved.at_move ended moved.is_recovered moved.answer moved.made);
    found_leave = came (record caller { seen = ended }) tag leaves.at_leave leaves.comes;
    after_is = leaves.new_is;
  }

  condemned_so : (senses : HasSenses caller tag at caller.seen) (ended after : List Entry) (reply : CopyReply) →
      IsCondemned start contents caller tag at senses.after ended reply → IsLeft caller tag at ended after → Made after reply
  condemned_so senses ended after reply lost leaves = record {
    sensed = senses.after;
    at_end = lost.at_condemn;
    ended = ended;
    at_leave = leaves.at_leave;
    senses = sensed_since senses;
    found = came (record caller { seen = senses.after }) tag lost.at_condemn lost.comes;
    ends_so =
        subst (λ (given : CopyReply). Ends (ladders start contents) tag at lost.at_condemn ended given) (sym lost.reply_is)
        (condemn_ends (ladders start contents) tag at lost.at_condemn ended lost.is_uncorrectable lost.answer lost.made);
    found_leave = came (record caller { seen = ended }) tag leaves.at_leave leaves.comes;
    after_is = leaves.new_is;
  }

  pub failed_so : (after : List Entry) (reply : CopyReply) → HasCopyFailed caller tag at after reply → MadeRefresh after reply
  failed_so after reply failed =
      let ended : List Entry =
      entry_of tag (Kind.FaultSense at failed.fails.place failed.fails.level) ∷ failed.fails.at_sense in
      record {
        sensed = failed.senses.after;
        at_end = failed.fails.at_sense;
        ended = ended;
        at_leave = failed.fails.leaves.at_leave;
        senses = sensed_since failed.senses;
        found = came (record caller { seen = failed.senses.after }) tag failed.fails.at_sense failed.fails.comes;
        ends_so =
            subst (λ (given : CopyReply). Refreshes (ladders start contents) tag at failed.fails.at_sense ended given)
            (sym (failed.reply_is ∙ ap copy.DieFault failed.fails.die_is))
            (sense_ends (ladders start contents) tag at failed.fails.at_sense ended failed.fails.place failed.fails.level refl);
        found_leave = came (record caller { seen = ended }) tag failed.fails.leaves.at_leave failed.fails.leaves.comes;
        after_is = failed.fails.leaves.new_is;
      }

  pub without_refresh : (after : List Entry) (reply : CopyReply) → MadeRefresh after reply → Made after reply
  without_refresh after reply made = record {
    sensed = made.sensed;
    at_end = made.at_end;
    ended = made.ended;
    at_leave = made.at_leave;
    senses = made.senses;
    found = made.found;
    ends_so = made.ends_so.ends;
    found_leave = made.found_leave;
    after_is = made.after_is;
  }

  copied_so : (after : List Entry) (reply : CopyReply) → CopiesFor start contents caller tag at true after reply →
      Made after reply
  copied_so after reply (inl copied) = by_end copied.ends
    where
      by_end : IsMoved start contents caller tag at copied.senses.after copied.ended reply
          ⊎ IsCondemned start contents caller tag at copied.senses.after copied.ended reply → Made after reply
      by_end (inl moved) = without_refresh after reply (moved_so copied.senses copied.ended after reply moved copied.leaves)
      by_end (inr lost) = condemned_so copied.senses copied.ended after reply lost copied.leaves
  copied_so after reply (inr failed) = without_refresh after reply (failed_so after reply failed)

  -- whatever position the look is said to have
  pub copied_made : (after : List Entry) (reply : CopyReply) → CopiesFor start contents caller tag look.at true after reply →
      Made after reply
  copied_made after reply copies =
      copied_so after reply (subst (λ (n : ℕ). CopiesFor start contents caller tag n true after reply) just.at_is copies)

-- the steps of a copy
module _ (start : Start) (contents : List (Tag × List ℕ)) (tag : Tag) (look : Look) (before after : List Entry)
    (reply : CopyReply)
    (made : CopyEnds start contents tag look before after reply
    (λ past ended. Ends (ladders start contents) tag (length before) past ended reply)) where
  abbrev pub ending : CallStep
  ending = made_step tag made.ends_so.kind made.at_end

  abbrev pub copy_steps : List CallStep
  copy_steps =
      look_steps tag look.row look.slot look.serial look.closed before made.at_leave (length before) made.senses.steps
      made.senses.are_senses (ending ∷ [])

  pub copy_among : (seen : List Entry) → HasCome tag.actor seen before → AreStepsAmong tag seen copy_steps after
  copy_among seen found =
      look_made tag look.row look.slot look.serial look.closed before made.sensed made.ended made.at_leave after made.senses
      (ending ∷ [])
      (one_made tag made.ends_so.kind made.sensed made.at_end made.ended made.found made.ends_so.ended_is)
      (one_made tag (Kind.Leave (length before)) made.ended made.at_leave after made.found_leave made.after_is) seen found

  pub copy_is : IsCopy (ladders start contents) copy_steps (step_of_look tag look before)
  copy_is = record {
    ending = ending;
    leave = made_step tag (Kind.Leave (length before)) made.at_leave;
    is_list =
        look_list tag look.row look.slot look.serial look.closed before made.sensed made.at_leave made.senses (ending ∷ []);
    ends = made.ends_so.copy;
  }

  pub copy_tests : (test : Kind → Bool) → TestsEnd test →
      list_any (λ step. test step.entry.kind) copy_steps ≡ test made.ends_so.kind
  copy_tests test tests =
      ended_any tag look.row look.slot look.serial look.closed before made.at_leave (length before) made.senses.steps
      made.senses.are_senses test tests made.ends_so.kind made.at_end

  pub copy_ends : list_any (λ step. is_stay step.entry.kind || is_fault step.entry.kind) copy_steps ≡ is_round_end reply
  copy_ends = copy_tests (λ kind. is_stay kind || is_fault kind) stay_or_fault ∙ made.ends_so.round

  pub copy_faults : list_any (λ step. is_fault step.entry.kind) copy_steps ≡ is_die_fault reply
  copy_faults = copy_tests is_fault faults_end ∙ made.ends_so.fault

pub copies_among : CopiesAmongAreCopies
copies_among start contents caller tag look before after reply just copies =
    let made = copied_made start contents caller tag look before just after reply copies in
    record {
      steps = copy_steps start contents tag look before after reply made;
      are_steps = copy_among start contents tag look before after reply made before (none_came tag.actor before);
      is_copy = copy_is start contents tag look before after reply made;
      ends_is = copy_ends start contents tag look before after reply made;
      fault_is = copy_faults start contents tag look before after reply made;
    }
