-- A read that was served: of a row without a page by its look alone, of a page by its look, its senses, the one that failed, if
-- one did, and its leave. Its page is pushed as a hint where its data came from a later rung.
use Rattle.std.proofs.Common.{ℕ, suc, zero, ◌≡◌, ◌%◌, ◌/◌, ◌==◌, Bool, true, false, List, [], ◌∷◌, length, ℤ, Some, refl, sym, ap, subst, ◌∙◌, inl, arith}
use Rattle.std.specs.Prelude.{slice_get, slice_set}
use Rattle.std.proofs.lemmas.Bool.Decides.{nat_tests}
use Rattle.std.proofs.lemmas.Option.{slice_get_within, same_Some}
use Rattle.ssd_histories.specs.CallSteps.{CallStep, is_look_of_none, steps_of}
use Rattle.ssd_histories.specs.CallsInOrder.{ladder_in, steps_on}
use Rattle.ssd_geo.specs.Coding.{coding_of}
use Rattle.ssd_histories.specs.Copies.{IsRead}
use Rattle.ssd_geo.specs.Ladder.{LadderState, asks, recovered, uncorrectable}
use Rattle.ssd_histories.specs.PastPages.{ladder_of}
use Rattle.ssd_histories.specs.Replies.{bytes_of_word, read_reply, reply_of_ladder}
use Rattle.ssd_formats.specs.RunText.{is_hinted, taken_by}
use Rattle.ssd_histories.specs.SerialCalls.{AreStepsFrom, entry_of}
use Rattle.ssd_histories.specs.SerialHistory.{HasForm, SerialState, after_read, is_hint, reply_of_read, with_hint, with_past}
use Rattle.ssd_histories.specs.Start.{Start}
use Rattle.ssd_geo.specs.declared.entry.Entry.{Entry}
use Rattle.ssd_geo.specs.declared.kind.Kind.{Kind}
use Rattle.ssd_geo.specs.declared.place.Place.{Place}
use Rattle.ssd_geo.specs.declared.reply.Reply.{Reply}
use Rattle.ssd_geo.specs.declared.row.Row.{Row}
use Rattle.ssd_geo.specs.declared.slot.Slot.{Slot}
use Rattle.ssd_geo.specs.declared.tag.Tag.{Tag}
use Rattle.ssd_geo.specs.declared.trace.Verb.{Verb}
use Rattle.ssd_histories.specs.ServedCalls.{after_leave, after_lone_look, after_sensing, reply_to_none}
use Rattle.run_laws.specs.RepliedCalls.{after_failed_sense}
use Rattle.run_laws.proofs.ChangedRuns.{get_set}
use Rattle.run_laws.proofs.MadeCalls.{IsMade, on_channel, on_run, one_step, one_step_more, run_of, with_hint_of}
use Rattle.run_laws.proofs.FailedReads.{failed_has_reply, failed_steps, failed_steps_are, failed_steps_lead, is_failed_read}
use Rattle.run_laws.proofs.MadeReads.{has_reply, is_read, read_steps, steps_are, steps_lead}
use Rattle.shared_lemmas.proofs.Tests.{same_number}

-- a reply of a read is a hint in a history just where it counts as one in a run
pub hint_is : (reply : Reply) → is_hint (Some reply) ≡ is_hinted reply
hint_is (Reply.Data zero data_bytes) = refl
hint_is (Reply.Data (suc rung) data_bytes) =
    let other : (suc rung == 0) ≡ false = grind (arith, nat_tests) in rw other refl
hint_is reply = refl

-- a ladder's reply takes no hint
takes_no_hint : (count : ℕ) (state : LadderState) (reply : Reply) →
    reply_of_ladder count state ≡ Some reply → taken_by reply ≡ 0
takes_no_hint count (asks place level) reply is = absurd (cc)
takes_no_hint count (recovered rung word) reply is =
    sym (ap taken_by (same_Some (Reply.Data rung (bytes_of_word count word)) reply is))
takes_no_hint count uncorrectable reply is = sym (ap taken_by (same_Some Reply.Uncorrectable reply is))

-- what a read made, by its steps
pub record ReadMade (start : Start) (contents : List (Tag × List ℕ)) (row : ℕ) (tag : Tag)
    (reply : Reply) (past after : List Entry) : Type 0 where
  takes_none : taken_by reply ≡ 0
  steps : List CallStep
  are : steps_of tag after ≡ steps
  lead : AreStepsFrom tag past steps after
  is_read : IsRead (ladder_of (coding_of start.base) start contents) row steps
  replies : read_reply start.base.shape.bytes (ladder_of (coding_of start.base) start contents) steps ≡ Some reply

module _ (start : Start) (contents : List (Tag × List ℕ)) (channels channel : ℕ) (tag : Tag) (page : ℕ)
    (reply : Reply) (past after : List Entry) (on : page % channels ≡ channel)
    (made : ReadMade start contents (page / channels) tag reply past after) where
  -- the reply of the call in a history is this one
  reply_is : (before : SerialState) → slice_get before.channels channel ≡ Some (run_of start past) →
      reply_of_read contents (page % channels) tag (with_past channel after (run_of start past) before) ≡ Some reply
  reply_is before is =
      let there : slice_get (slice_set before.channels channel (run_of start after)) (page % channels) ≡ Some (run_of start after) =
      ap (slice_get (slice_set before.channels channel (run_of start after))) on
      ∙ get_set before.channels channel (run_of start after)
      (slice_get_within before.channels channel (run_of start past) is) in
      let decided : read_reply start.base.shape.bytes (ladder_of (coding_of start.base) start contents) (steps_of tag after) ≡ Some reply =
      ap (read_reply start.base.shape.bytes (ladder_of (coding_of start.base) start contents)) made.are
      ∙ made.replies in
      rw (there, reply_of_read) decided

  hints : (before : SerialState) → slice_get before.channels channel ≡ Some (run_of start past) →
      with_hint_of page reply
      (with_past channel after (run_of start past) before) ≡ after_read contents channels tag page
      (with_past channel after (run_of start past) before)
  hints before is =
      ap {B = SerialState} (λ (b : Bool). elim b [ true ↦ with_hint page (with_past channel after (run_of start past) before) | false ↦ with_past channel after (run_of start past) before ])
      (sym (ap is_hint (reply_is before is) ∙ hint_is reply))

  pub read_is_made : IsMade start contents channels channel tag (Verb.Read page) reply past after
  read_is_made = record {
    takes_none = made.takes_none;
    is_reply = λ runs many is.
        on_run (λ run. read_reply run.start.base.shape.bytes (ladder_in contents run)
        (steps_on tag run) ≡ Some reply) runs channels channel page (run_of start after) on many is
        (ap (read_reply start.base.shape.bytes (ladder_of (coding_of start.base) start contents)) made.are ∙ made.replies);
    hint = page;
    hints_are = λ hints. refl;
    serves = λ before is. record {
      between = with_past channel after (run_of start past) before;
      reads =
          on_channel (λ run. HasForm (IsRead (ladder_in contents run) (page / channels)) tag)
          (page % channels) channel (run_of start past) after before on is
          (record { steps = made.steps; are_steps = made.lead; has_form = made.is_read });
      after_is = hints before is;
    };
  }

module _ (start : Start) (contents : List (Tag × List ℕ)) (row : ℕ) (tag : Tag) (past : List Entry)
    (no_steps : steps_of tag past ≡ []) where
  -- a look that found no page, which gives this reply
  lone_is_made : (found : Row) (reply : Reply) → taken_by reply ≡ 0 →
      is_look_of_none (Kind.Look row found false) ≡ true →
      ((ladder : List Entry → ℕ → LadderState) → read_reply start.base.shape.bytes ladder
      (one_step tag (Kind.Look row found false) past) ≡ Some reply) →
      ReadMade start contents row tag reply past (after_lone_look tag row found past)
  lone_is_made found reply none is_none replies =
      let kind : Kind = Kind.Look row found false in
      record {
        takes_none = none;
        steps = one_step tag kind past;
        are = one_step_more tag kind past [] no_steps;
        lead = (refl, refl, refl);
        is_read = inl (rw (is_none, same_number row) refl);
        replies = replies (ladder_of (coding_of start.base) start contents);
      }

  pub lone_look_is_made : (found : Row) (reply : Reply) → reply_to_none found ≡ Some reply →
      ReadMade start contents row tag reply past (after_lone_look tag row found past)
  lone_look_is_made Row.Empty reply is =
      subst (λ (given : Reply). ReadMade start contents row tag given past
      (after_lone_look tag row Row.Empty past)) (same_Some Reply.Empty reply is)
      (lone_is_made Row.Empty Reply.Empty refl refl (λ ladder. refl))
  lone_look_is_made Row.Lost reply is =
      subst (λ (given : Reply). ReadMade start contents row tag given past
      (after_lone_look tag row Row.Lost past)) (same_Some Reply.Uncorrectable reply is)
      (lone_is_made Row.Lost Reply.Uncorrectable refl refl (λ ladder. refl))
  lone_look_is_made (Row.Page slot serial) reply is = absurd (cc)

  -- a read of a page
  pub page_is_made : (slot : Slot) (serial : ℕ) (closed : Bool) (senses : List (Place × ℤ))
      (reply : Reply) →
      reply_of_ladder start.base.shape.bytes
      (ladder_of (coding_of start.base) start contents
      (after_sensing tag row slot serial closed senses past) (length past)) ≡ Some reply →
      ReadMade start contents row tag reply past (after_leave tag row slot serial closed senses past)
  page_is_made slot serial closed senses reply is =
      let ladder : List Entry → ℕ → LadderState = ladder_of (coding_of start.base) start contents in
      record {
        takes_none =
            takes_no_hint start.base.shape.bytes
            (ladder (after_sensing tag row slot serial closed senses past) (length past)) reply is;
        steps = read_steps tag row slot serial closed senses past;
        are = steps_are tag row slot serial closed senses past no_steps;
        lead = steps_lead tag row slot serial closed senses past;
        is_read = is_read tag row slot serial closed senses past ladder start.base.shape.bytes reply is;
        replies =
            has_reply tag row slot serial closed senses past ladder start.base.shape.bytes reply is;
      }

  -- a read of a page of which a sense failed
  pub failed_read_is_made : (slot : Slot) (serial : ℕ) (closed : Bool) (senses : List (Place × ℤ)) (place : Place) (level : ℤ) →
      ReadMade start contents row tag (Reply.DieFault place.die) past
      (entry_of tag (Kind.Leave (length past)) ∷ after_failed_sense tag row slot serial closed senses place level past)
  failed_read_is_made slot serial closed senses place level =
      let ladder : List Entry → ℕ → LadderState = ladder_of (coding_of start.base) start contents in
      record {
        takes_none = refl;
        steps = failed_steps tag row slot serial closed senses past place level;
        are = failed_steps_are tag row slot serial closed senses past place level no_steps;
        lead = failed_steps_lead tag row slot serial closed senses past place level;
        is_read = is_failed_read tag row slot serial closed senses past place level ladder;
        replies = failed_has_reply tag row slot serial closed senses past place level ladder start.base.shape.bytes;
      }
