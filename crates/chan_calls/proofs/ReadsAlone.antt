-- What a caller that is alone reads is read by steps that stand together.
use Rattle.std.proofs.Common.{◌≡◌, ℕ, false, List, [], ◌∷◌, ◌++◌, length, Option, Some, None, refl, sym, subst, ◌∙◌, ap, inl, inr}
use Rattle.std.specs.Prelude.{IsTrue, ℤ}
use Rattle.ssd_histories.specs.CallSteps.{CallStep}
use Rattle.ssd_histories.specs.Replies.{read_decided, reply_of_ladder}
use Rattle.ssd_histories.specs.SerialCalls.{entry_of}
use Rattle.ssd_histories.specs.ServedCalls.{after_lone_look, after_senses, reply_to_none}
use Rattle.ssd_histories.specs.PastPages.{ladder_of}
use Rattle.ssd_histories.specs.Start.{Start}
use Rattle.ssd_geo.specs.Coding.{coding_of}
use Rattle.ssd_geo.specs.Ladder.{LadderState, asks, has_answer, recovered, uncorrectable}
use Rattle.ssd_geo.specs.declared.entry.Entry.{Entry}
use Rattle.ssd_geo.specs.declared.kind.Kind.{Kind}
use Rattle.ssd_geo.specs.declared.place.Place.{Place}
use Rattle.ssd_geo.specs.declared.reply.Reply.{Reply}
use Rattle.ssd_geo.specs.declared.row.Row.{Row}
use Rattle.ssd_geo.specs.declared.tag.Tag.{Tag}
use Rattle.chan_calls.specs.Caller.{CallerView}
use Rattle.chan_calls.specs.Calls.{HasFoundNone, HasLooked, HasReadFailed, HasReadPage, IsReadBy, ReadsAloneAreReads}
use Rattle.chan_calls.proofs.SensedSteps.{are_after, are_sense_steps, first_after, is_seen, sense_steps, senses_from, step_with}
use Rattle.ssd_histories.proofs.SettledReplies.{replies_answered}
use Rattle.shared_lemmas.proofs.Tests.{same_number}

-- the reply of a list of one step
last_reply : (decided : Option Reply) (reply : Reply) → decided ≡ Some reply →
    elim decided as (λ (o : Option Reply). Option Reply) [ Some given ↦ Some given | None ↦ None ]
    ≡ Some reply
last_reply decided reply is =
    ap (λ (o : Option Reply). elim o as (λ (o : Option Reply). Option Reply)
    [ Some given ↦ Some given | None ↦ None ]) is

module _ (start : Start) (contents : List (Tag × List ℕ)) (caller : CallerView) (tag : Tag)
    (row : ℕ) (alone : caller.number ≡ None) where
  abbrev ladder : List Entry → ℕ → LadderState
  ladder = ladder_of (coding_of start.base) start contents

  -- the look found no page
  by_found : (found : Row) (before new : List Entry) (reply : Reply) →
      reply_to_none found ≡ Some reply → new ≡ after_lone_look tag row found before →
      IsReadBy start contents tag row before new reply
  by_found Row.Empty before new reply reply_is new_is = record {
    steps = step_with tag (Kind.Look row Row.Empty false) before ∷ [];
    are_steps = (refl, refl, sym new_is);
    is_read = inl (same_number row);
    reply_is = reply_is;
  }
  by_found Row.Lost before new reply reply_is new_is = record {
    steps = step_with tag (Kind.Look row Row.Lost false) before ∷ [];
    are_steps = (refl, refl, sym new_is);
    is_read = inl (same_number row);
    reply_is = reply_is;
  }
  by_found (Row.Page slot serial) before new reply reply_is new_is = absurd (cc)

  none_is_read : (new : List Entry) (reply : Reply) → HasFoundNone caller tag row new reply →
      IsReadBy start contents tag row caller.seen new reply
  none_is_read new reply found =
      subst (λ (before : List Entry). IsReadBy start contents tag row before new reply)
      (is_seen caller tag alone caller.seen found.at_look found.comes)
      (by_found found.found found.at_look new reply found.reply_is found.new_is)

  -- the look found a page
  module _ (look : HasLooked caller tag row) where
    abbrev before : List Entry
    before = look.at_look

    abbrev looked : Kind
    looked = Kind.Look row (Row.Page look.slot look.serial) look.closed

    -- the past after its senses
    abbrev sensed : List Entry
    sensed = after_senses tag (length before) look.senses.senses (entry_of tag looked ∷ before)

    at_end : look.senses.after ≡ sensed
    at_end =
        are_after caller tag alone (length before) look.senses.senses (entry_of tag looked ∷ before)
        look.senses.after look.senses.are_senses

    -- its steps, with those that stand between the senses and the leave
    abbrev steps : List CallStep → List Entry → List CallStep
    steps ending at_leave =
        (step_with tag looked before
        ∷ sense_steps tag (length before) look.senses.senses (entry_of tag looked ∷ before))
        ++ ending ++ step_with tag (Kind.Leave (length before)) at_leave ∷ []

    page_is_read : (new : List Entry) (reply : Reply) (at_leave : List Entry) →
        at_leave ≡ sensed → new ≡ entry_of tag (Kind.Leave (length before)) ∷ at_leave →
        reply_of_ladder start.base.shape.bytes (ladder at_leave (length before)) ≡ Some reply →
        IsReadBy start contents tag row before new reply
    page_is_read new reply at_leave left new_is reply_is = record {
      steps = steps [] at_leave;
      are_steps = (
        refl,
        refl,
        senses_from tag (length before) look.senses.senses (entry_of tag looked ∷ before) []
            (step_with tag (Kind.Leave (length before)) at_leave ∷ []) new (
              left,
              refl,
              ap {B = List Entry} (λ (past : List Entry). entry_of tag (Kind.Leave (length before))
                  ∷ past) (sym left) ∙ sym new_is,
            ),
      );
      is_read = inr (record {
        look = step_with tag looked before;
        ending = [];
        leave = step_with tag (Kind.Leave (length before)) at_leave;
        is_list = record {
          senses = sense_steps tag (length before) look.senses.senses
              (entry_of tag looked ∷ before);
          are_steps = refl;
          finds_page = refl;
          are_senses = are_sense_steps tag (length before) look.senses.senses
              (entry_of tag looked ∷ before);
          is_left = same_number (length before);
        };
        of_row = same_number row;
        ends = replies_answered start.base.shape.bytes (ladder at_leave (length before)) reply
            reply_is;
      });
      reply_is =
          first_after Reply
          (λ (step : CallStep). read_decided start.base.shape.bytes ladder step.past
          step.entry.kind) tag (length before) look.senses.senses (entry_of tag looked ∷ before) []
          (step_with tag (Kind.Leave (length before)) at_leave ∷ [])
          (λ now place level. refl)
          ∙ last_reply (reply_of_ladder start.base.shape.bytes (ladder at_leave (length before)))
          reply reply_is;
    }

    fault_is_read : (new : List Entry) (reply : Reply) (place : Place) (level : ℤ)
        (at_sense at_leave : List Entry) → at_sense ≡ sensed →
        at_leave ≡ entry_of tag (Kind.FaultSense (length before) place level) ∷ sensed →
        new ≡ entry_of tag (Kind.Leave (length before)) ∷ at_leave →
        reply ≡ Reply.DieFault place.die →
        IsReadBy start contents tag row before new reply
    fault_is_read new reply place level at_sense at_leave fails left new_is reply_is = record {
      steps =
          steps (step_with tag (Kind.FaultSense (length before) place level) at_sense ∷ []) at_leave;
      are_steps = (
        refl,
        refl,
        senses_from tag (length before) look.senses.senses (entry_of tag looked ∷ before)
            (step_with tag (Kind.FaultSense (length before) place level) at_sense ∷ [])
            (step_with tag (Kind.Leave (length before)) at_leave ∷ []) new (
              fails,
              refl,
              (
                left,
                refl,
                ap {B = List Entry} (λ (past : List Entry). entry_of tag (Kind.Leave (length before))
                    ∷ past) (sym left) ∙ sym new_is,
              ),
            ),
      );
      is_read = inr (record {
        look = step_with tag looked before;
        ending = step_with tag (Kind.FaultSense (length before) place level) at_sense ∷ [];
        leave = step_with tag (Kind.Leave (length before)) at_leave;
        is_list = record {
          senses = sense_steps tag (length before) look.senses.senses
              (entry_of tag looked ∷ before);
          are_steps = refl;
          finds_page = refl;
          are_senses = are_sense_steps tag (length before) look.senses.senses
              (entry_of tag looked ∷ before);
          is_left = same_number (length before);
        };
        of_row = same_number row;
        ends = same_number (length before);
      });
      reply_is =
          first_after Reply
          (λ (step : CallStep). read_decided start.base.shape.bytes ladder step.past
          step.entry.kind) tag (length before) look.senses.senses (entry_of tag looked ∷ before)
          (step_with tag (Kind.FaultSense (length before) place level) at_sense ∷ [])
          (step_with tag (Kind.Leave (length before)) at_leave ∷ [])
          (λ now place level. refl)
          ∙ ap (λ (r : Reply). Some r) (sym reply_is);
    }

  read_is_read : (new : List Entry) (reply : Reply) →
      HasReadPage start contents caller tag row new reply →
      IsReadBy start contents tag row caller.seen new reply
  read_is_read new reply read =
      subst (λ (past : List Entry). IsReadBy start contents tag row past new reply)
      (is_seen caller tag alone caller.seen read.look.at_look read.look.comes)
      (page_is_read read.look new reply read.leaves.at_leave
      (is_seen caller tag alone read.look.senses.after read.leaves.at_leave read.leaves.comes
      ∙ at_end read.look)
      read.leaves.new_is read.reply_is)

  failed_is_read : (new : List Entry) (reply : Reply) → HasReadFailed caller tag row new reply →
      IsReadBy start contents tag row caller.seen new reply
  failed_is_read new reply read =
      let at : ℕ = length read.look.at_look in
      let fault : Entry = entry_of tag (Kind.FaultSense at read.fails.place read.fails.level) in
      let fails : read.fails.at_sense ≡ sensed read.look =
      is_seen caller tag alone read.look.senses.after read.fails.at_sense read.fails.comes
      ∙ at_end read.look in
      subst (λ (past : List Entry). IsReadBy start contents tag row past new reply)
      (is_seen caller tag alone caller.seen read.look.at_look read.look.comes)
      (fault_is_read read.look new reply read.fails.place read.fails.level read.fails.at_sense
      read.fails.leaves.at_leave fails
      (is_seen caller tag alone (fault ∷ read.fails.at_sense) read.fails.leaves.at_leave
      read.fails.leaves.comes
      ∙ ap {B = List Entry} (λ (past : List Entry). fault ∷ past) fails)
      read.fails.leaves.new_is (read.reply_is ∙ ap Reply.DieFault read.fails.die_is))

pub reads_are_reads : ReadsAloneAreReads
reads_are_reads start contents caller tag row new reply alone (inl found) =
    none_is_read start contents caller tag row alone new reply found
reads_are_reads start contents caller tag row new reply alone (inr (inl read)) =
    read_is_read start contents caller tag row alone new reply read
reads_are_reads start contents caller tag row new reply alone (inr (inr failed)) =
    failed_is_read start contents caller tag row alone new reply failed
