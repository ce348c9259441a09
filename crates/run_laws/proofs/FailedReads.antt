-- The steps of a read of a page in which a sense failed: they are those of a read, and their reply names the die.
use Rattle.std.proofs.Common.{ℕ, ◌≡◌, Bool, List, [], ◌∷◌, ◌++◌, length, ℤ, Some, refl, sym, ap, subst, ◌∙◌, inr, append_assoc}
use Rattle.ssd_histories.specs.CallSteps.{CallStep, steps_of}
use Rattle.ssd_histories.specs.Copies.{IsRead}
use Rattle.ssd_geo.specs.Ladder.{LadderState}
use Rattle.ssd_histories.specs.Replies.{read_decided, read_reply}
use Rattle.ssd_histories.specs.SerialCalls.{AreStepsFrom, entry_of}
use Rattle.ssd_geo.specs.declared.entry.Entry.{Entry}
use Rattle.ssd_geo.specs.declared.kind.Kind.{Kind}
use Rattle.ssd_geo.specs.declared.place.Place.{Place}
use Rattle.ssd_geo.specs.declared.reply.Reply.{Reply}
use Rattle.ssd_geo.specs.declared.row.Row.{Row}
use Rattle.ssd_geo.specs.declared.slot.Slot.{Slot}
use Rattle.ssd_geo.specs.declared.tag.Tag.{Tag}
use Rattle.ssd_histories.specs.ServedCalls.{after_look, after_sensing}
use Rattle.run_laws.specs.RepliedCalls.{after_failed_sense}
use Rattle.run_laws.proofs.MadeCalls.{one_step_more}
use Rattle.run_laws.proofs.SenseSteps.{all_senses, decided_behind, sense_steps, senses_are_steps, senses_lead}
use Rattle.shared_lemmas.proofs.Tests.{same_number}

module _ (tag : Tag) (row : ℕ) (slot : Slot) (serial : ℕ) (closed : Bool) (senses : List (Place × ℤ))
    (past : List Entry) (place : Place) (level : ℤ) where
  abbrev look_kind : Kind
  look_kind = Kind.Look row (Row.Page slot serial) closed

  abbrev fault_kind : Kind
  fault_kind = Kind.FaultSense (length past) place level

  abbrev leave_kind : Kind
  leave_kind = Kind.Leave (length past)

  abbrev looked : List Entry
  looked = after_look tag row slot serial closed past

  abbrev has_sensed : List Entry
  has_sensed = after_sensing tag row slot serial closed senses past

  abbrev has_failed : List Entry
  has_failed = after_failed_sense tag row slot serial closed senses place level past

  abbrev look_step : CallStep
  look_step = record { past = past; entry = entry_of tag look_kind }

  abbrev fault_step : CallStep
  fault_step = record { past = has_sensed; entry = entry_of tag fault_kind }

  abbrev leave_step : CallStep
  leave_step = record { past = has_failed; entry = entry_of tag leave_kind }

  -- the look and its senses
  abbrev first_steps : List CallStep
  first_steps = look_step ∷ sense_steps tag (length past) senses looked

  abbrev pub failed_steps : List CallStep
  failed_steps = first_steps ++ fault_step ∷ [] ++ leave_step ∷ []

  pub failed_steps_are : steps_of tag past ≡ [] → steps_of tag (entry_of tag leave_kind ∷ has_failed) ≡ failed_steps
  failed_steps_are no_steps =
      one_step_more tag leave_kind has_failed (first_steps ++ fault_step ∷ [])
      (one_step_more tag fault_kind has_sensed first_steps
      (senses_are_steps tag (length past) senses looked (look_step ∷ [])
      (one_step_more tag look_kind past [] no_steps)))

  pub failed_steps_lead : AreStepsFrom tag past failed_steps (entry_of tag leave_kind ∷ has_failed)
  failed_steps_lead =
      subst (λ (steps : List CallStep). AreStepsFrom tag past steps (entry_of tag leave_kind ∷ has_failed))
      (sym (append_assoc first_steps (fault_step ∷ []) (leave_step ∷ []))) (
        refl,
        refl,
        senses_lead tag (length past) senses looked (fault_step ∷ leave_step ∷ []) (entry_of tag leave_kind ∷ has_failed)
            (refl, refl, (refl, refl, refl)),
      )

  pub is_failed_read : (ladder : List Entry → ℕ → LadderState) → IsRead ladder row failed_steps
  is_failed_read ladder = inr (record {
    look = look_step;
    ending = fault_step ∷ [];
    leave = leave_step;
    is_list = record {
      senses = sense_steps tag (length past) senses looked;
      are_steps = refl;
      finds_page = refl;
      are_senses = all_senses tag (length past) senses looked;
      is_left = same_number (length past);
    };
    of_row = same_number row;
    ends = same_number (length past);
  })

  pub failed_has_reply : (ladder : List Entry → ℕ → LadderState) (count : ℕ) →
      read_reply count ladder failed_steps ≡ Some (Reply.DieFault place.die)
  failed_has_reply ladder count =
      ap (read_reply count ladder) (append_assoc first_steps (fault_step ∷ []) (leave_step ∷ []))
      ∙ decided_behind tag (length past) (λ step. read_decided count ladder step.past step.entry.kind) senses looked
      (fault_step ∷ leave_step ∷ []) (λ before named asked. refl)
