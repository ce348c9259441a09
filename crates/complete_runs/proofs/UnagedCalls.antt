-- Only the calls that age a block have an entry that ages one.
use Rattle.std.proofs.Common.{◌≡◌, ℕ, ◌/◌, Bool, true, false, List, length, refl, sym, subst, ◌∙◌, inl, inr, All}
use Rattle.std.specs.Prelude.{flat_map}
use Rattle.std.proofs.lemmas.Bool.{false≢true}
use Rattle.std.proofs.lemmas.List.Elements.{All-append}
use Rattle.ssd_geo.specs.Ladder.{LadderState}
use Rattle.ssd_geo.specs.declared.base.ChannelBase.{ChannelBase}
use Rattle.ssd_geo.specs.declared.entry.Entry.{Entry}
use Rattle.ssd_geo.specs.declared.kind.Kind.{Kind}
use Rattle.ssd_geo.specs.declared.trace.Verb.{Verb}
use Rattle.ssd_histories.specs.CallSteps.{CallStep, is_erase_or_bad_erase, is_leave_of, is_look_of_none, is_look_of_page, is_pick, is_sense_of}
use Rattle.ssd_histories.specs.CallsInOrder.{AreStepsOf, is_trim_of, ladder_in}
use Rattle.ssd_histories.specs.Lawful.{is_fault_sense_of}
use Rattle.ssd_histories.specs.Rounds.{IsWrite, IsWriteEnd, IsWritePart, is_failed_write, is_idle_note, is_note, is_write_end}
use Rattle.serial_laws.proofs.LookLists.{is_end_kind}
use Rattle.run_laws.specs.FirstSenses.{IsNoAgeing}
use Rattle.run_laws.specs.Runs.{channels_of, data_in}
use Rattle.complete_runs.specs.PlainAnswers.{AgesNone, UnagedCallsAgeNone}
use Rattle.complete_runs.proofs.CallEntries.{all_entries_have}
use Rattle.complete_runs.proofs.KindsOfCalls.{HasKinds, collect_has, one_has, own_has, part_has, parts_has, read_has, refresh_has, refreshes_has, round_has}

abbrev Unaged : CallStep → Type 0
Unaged step = IsNoAgeing step.entry.kind

-- a test that no ageing passes
abbrev AgesFail : (Kind → Bool) → Type 0
AgesFail test = (die sb amount : ℕ) → test (Kind.Age die sb amount) ≡ false

passes : (test : Kind → Bool) → AgesFail test → (kind : Kind) → test kind ≡ true → IsNoAgeing kind
passes test fail (Kind.Age die sb amount) is = false≢true (sym (fail die sb amount) ∙ is)
passes test fail kind is = tt

-- the kinds of entries of calls that neither write, trim nor age
unaged_kinds : HasKinds IsNoAgeing
unaged_kinds = record {
  look_of_page = passes is_look_of_page (λ die sb amount. refl);
  look_of_none = passes is_look_of_none (λ die sb amount. refl);
  sense = λ at. passes (is_sense_of at) (λ die sb amount. refl);
  fault_sense = λ at. passes (is_fault_sense_of at) (λ die sb amount. refl);
  leave = λ at. passes (is_leave_of at) (λ die sb amount. refl);
  ending = passes is_end_kind (λ die sb amount. refl);
  pick = passes is_pick (λ die sb amount. refl);
  erase = passes is_erase_or_bad_erase (λ die sb amount. refl);
  note = passes is_note (λ die sb amount. refl);
  idle_note = passes is_idle_note (λ die sb amount. refl);
  failed_write = λ row. passes (is_failed_write row) (λ die sb amount. refl);
}

module _ (ladder : List Entry → ℕ → LadderState) (base : ChannelBase) where
  end_unaged : (row : ℕ) (steps : List CallStep) → IsWriteEnd ladder base row steps → All Unaged steps
  end_unaged row steps (inl ended) =
      one_has IsNoAgeing unaged_kinds (is_write_end row) (passes (is_write_end row) (λ die sb amount. refl)) steps ended
  end_unaged row steps (inr round) = round_has IsNoAgeing unaged_kinds ladder base steps round.is_round

  write_unaged : (row : ℕ) (steps : List CallStep) → IsWrite ladder base row steps → All Unaged steps
  write_unaged row steps write =
      subst (All Unaged) (sym write.are_steps)
      (All-append Unaged (flat_map (λ part. part) write.parts) write.last
      (parts_has IsNoAgeing unaged_kinds (IsWritePart ladder base row) (part_has IsNoAgeing unaged_kinds ladder base row) write.parts write.are_parts)
      (end_unaged row write.last write.ends))

  verb_unaged : (channels channel : ℕ) (verb : Verb) (steps : List CallStep) → AgesNone verb →
      AreStepsOf ladder base channels channel verb steps → All Unaged steps
  verb_unaged channels channel (Verb.Write page content) steps none are =
      own_has IsNoAgeing unaged_kinds ladder base _ _ steps (write_unaged _ steps) are
  verb_unaged channels channel (Verb.Read page) steps none are =
      own_has IsNoAgeing unaged_kinds ladder base _ _ steps (read_has IsNoAgeing unaged_kinds ladder _ steps) are
  verb_unaged channels channel (Verb.Trim page) steps none are =
      own_has IsNoAgeing unaged_kinds ladder base _ _ steps
      (one_has IsNoAgeing unaged_kinds (is_trim_of (page / channels)) (passes (is_trim_of (page / channels)) (λ die sb amount. refl)) steps) are
  verb_unaged channels channel (Verb.Refresh page) steps none are =
      own_has IsNoAgeing unaged_kinds ladder base _ _ steps (refresh_has IsNoAgeing unaged_kinds ladder _ steps) are
  verb_unaged channels channel (Verb.Collect named) steps none are =
      own_has IsNoAgeing unaged_kinds ladder base _ _ steps (collect_has IsNoAgeing unaged_kinds ladder base steps) are
  verb_unaged channels channel (Verb.Drain count) steps none are = refreshes_has IsNoAgeing unaged_kinds ladder steps are
  verb_unaged channels channel (Verb.Age named die sb amount) steps none are = absurd none

pub unaged_calls_age_none : UnagedCallsAgeNone
unaged_calls_age_none head run ordered none =
    all_entries_have IsNoAgeing (data_in head run) run.calls.calls run.replies (channels_of run) ordered.in_order
    (λ k other within item steps are.
    verb_unaged (ladder_in (data_in head run) item.1) item.1.start.base (length (channels_of run)) item.0 _ steps (none k other within) are)
