-- The steps of a read that found a page: they are those of a read, their reply is what the ladder came to over the senses, and
-- where the page was recovered, these are the data that the row held by its writes and trims.
use Rattle.std.proofs.Common.{ℕ, ◌≡◌, Bool, List, [], ◌∷◌, ◌++◌, length, ℤ, Some, refl, sym, ap, ◌∙◌, inr, append-nil}
use Rattle.std.specs.Prelude.{IsTrue}
use Rattle.ssd_histories.specs.CallSteps.{CallStep, steps_of}
use Rattle.ssd_histories.specs.Copies.{IsRead}
use Rattle.ssd_geo.specs.Ladder.{LadderState, asks, has_answer, recovered, uncorrectable}
use Rattle.ssd_histories.specs.Replies.{first_reply, read_decided, read_reply, reply_of_ladder}
use Rattle.ssd_histories.specs.SerialCalls.{AreStepsFrom, entry_of}
use Rattle.ssd_geo.specs.declared.entry.Entry.{Entry}
use Rattle.ssd_geo.specs.declared.kind.Kind.{Kind}
use Rattle.ssd_geo.specs.declared.place.Place.{Place}
use Rattle.ssd_geo.specs.declared.reply.Reply.{Reply}
use Rattle.ssd_geo.specs.declared.row.Row.{Row}
use Rattle.ssd_geo.specs.declared.slot.Slot.{Slot}
use Rattle.ssd_geo.specs.declared.tag.Tag.{Tag}
use Rattle.ssd_histories.specs.ServedCalls.{after_leave, after_look, after_sensing}
use Rattle.run_laws.proofs.MadeCalls.{one_step_more}
use Rattle.run_laws.proofs.SenseSteps.{all_senses, decided_behind, sense_steps, senses_are_steps, senses_lead}
use Rattle.ssd_histories.proofs.SettledReplies.{replies_answered}
use Rattle.shared_lemmas.proofs.Tests.{same_number}

module _ (tag : Tag) (row : ℕ) (slot : Slot) (serial : ℕ) (closed : Bool) (senses : List (Place × ℤ))
    (past : List Entry) where
  -- the look and the leave
  abbrev look_kind : Kind
  look_kind = Kind.Look row (Row.Page slot serial) closed

  abbrev leave_kind : Kind
  leave_kind = Kind.Leave (length past)

  abbrev looked : List Entry
  looked = after_look tag row slot serial closed past

  abbrev has_sensed : List Entry
  has_sensed = after_sensing tag row slot serial closed senses past

  abbrev has_left : List Entry
  has_left = after_leave tag row slot serial closed senses past

  abbrev look_step : CallStep
  look_step = record { past = past; entry = entry_of tag look_kind }

  abbrev leave_step : CallStep
  leave_step = record { past = has_sensed; entry = entry_of tag leave_kind }

  abbrev pub read_steps : List CallStep
  read_steps = look_step ∷ sense_steps tag (length past) senses looked ++ leave_step ∷ []

  pub steps_are : steps_of tag past ≡ [] → steps_of tag has_left ≡ read_steps
  steps_are no_steps =
      one_step_more tag leave_kind has_sensed (look_step ∷ sense_steps tag (length past) senses looked)
      (senses_are_steps tag (length past) senses looked (look_step ∷ [])
      (one_step_more tag look_kind past [] no_steps))

  pub steps_lead : AreStepsFrom tag past read_steps has_left
  steps_lead = (
    refl,
    refl,
    senses_lead tag (length past) senses looked (leave_step ∷ []) has_left
        (refl, refl, refl),
  )

  pub is_read : (ladder : List Entry → ℕ → LadderState) (count : ℕ) (reply : Reply) →
      reply_of_ladder count (ladder has_sensed (length past)) ≡ Some reply →
      IsRead ladder row read_steps
  is_read ladder count reply is = inr (record {
    look = look_step;
    ending = [];
    leave = leave_step;
    is_list = record {
      senses = sense_steps tag (length past) senses looked;
      are_steps =
          ap (λ (steps : List CallStep). steps ++ leave_step ∷ [])
          (sym (append-nil (look_step ∷ sense_steps tag (length past) senses looked)));
      finds_page = refl;
      are_senses = all_senses tag (length past) senses looked;
      is_left = same_number (length past);
    };
    of_row = same_number row;
    ends = replies_answered count (ladder has_sensed (length past)) reply is;
  })

  pub has_reply : (ladder : List Entry → ℕ → LadderState) (count : ℕ) (reply : Reply) →
      reply_of_ladder count (ladder has_sensed (length past)) ≡ Some reply →
      read_reply count ladder read_steps ≡ Some reply
  has_reply ladder count reply is =
      decided_behind tag (length past)
      (λ step. read_decided count ladder step.past step.entry.kind) senses looked (leave_step ∷ [])
      (λ before place level. refl)
      ∙ rw (is, first_reply) refl
