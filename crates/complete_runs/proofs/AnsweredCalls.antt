-- Each read of a run that began blank answers what its row holds: the contents give the data of each write, and a call that was
-- answered was made whole.
use Rattle.std.proofs.Common.{◌≡◌, ℕ, ◌==◌, ◌/◌, ◌%◌, Bool, true, false, List, [], ◌∷◌, ◌++◌, length, sym, ap, subst, ◌∙◌, Some, ℤ, All, append_assoc}
use Rattle.std.specs.Prelude.{IsSomeAnd, slice_index_or}
use Rattle.std.proofs.lemmas.Bool.{false≢true}
use Rattle.std.proofs.lemmas.List.Elements.{All-cons, All-head, All-nil, All-tail, All-weaker}
use Rattle.ssd_formats.specs.ImageHead.{Head}
use Rattle.ssd_formats.specs.TraceText.{contents_of}
use Rattle.ssd_geo.specs.declared.reply.Reply.{Reply}
use Rattle.ssd_geo.specs.declared.row.Row.{Row}
use Rattle.ssd_geo.specs.declared.tag.Tag.{Tag}
use Rattle.ssd_geo.specs.declared.trace.TraceCall.{TraceCall}
use Rattle.ssd_geo.specs.declared.trace.Verb.{Verb}
use Rattle.ssd_histories.specs.CallsInOrder.{AreCallSteps, AreNumberedAfter, ChannelRun, IsReplyBy, IsWhole, OnOwnChannel, ladder_in, steps_on}
use Rattle.ssd_histories.specs.Copies.{IsRead}
use Rattle.ssd_histories.specs.LastWrites.{IsData}
use Rattle.ssd_histories.specs.Replies.{read_reply}
use Rattle.ssd_histories.specs.Standing.{IsPastOf}
use Rattle.ssd_histories.specs.Start.{Start}
use Rattle.recovery_laws.specs.ReadReplies.{HasContents, IsTracedRun, IsWrittenRun}
use Rattle.recovery_laws.proofs.StartPages.{starts_have_named_pages}
use Rattle.recovery_laws.proofs.WritingCalls.{traced_runs_are_written}
use Rattle.serial_laws.proofs.Lists.{all_both}
use Rattle.run_laws.specs.FirstSenses.{IsUnagedPast, ReadsBack}
use Rattle.run_laws.specs.Runs.{Run, channels_of, data_in}
use Rattle.run_laws.specs.SerialRuns.{HasCalls, HasData}
use Rattle.run_laws.proofs.TaggedData.{tags_give_data}
use Rattle.complete_runs.specs.BlankRuns.{BeginsBlank}
use Rattle.complete_runs.specs.OrderedRuns.{IsOrderedRun}
use Rattle.complete_runs.specs.PlainAnswers.{AnswersPlain, BlankRunsAnswerReads, FirstSensesAnswerReads, IsUnaged, ReadsAnswerPlain}
use Rattle.complete_runs.specs.ToldLevels.{TellsApart}
use Rattle.complete_runs.specs.UncountedRuns.{IsFaultless}
use Rattle.complete_runs.proofs.BlankStarts.{IsBlankStart, starts_are_blank, starts_of_channels}
use Rattle.complete_runs.proofs.FaultlessPasts.{uncounted_runs_are_faultless}
use Rattle.complete_runs.proofs.FirstSteps.{on_run}
use Rattle.complete_runs.proofs.KnownRows.{AreEmpty, empty_row}
use Rattle.complete_runs.proofs.ReadAnswers.{reads_answer_plain}
use Rattle.complete_runs.proofs.ToldWords.{told_levels_read_back}
use Rattle.complete_runs.proofs.UnagedCalls.{unaged_calls_age_none}
use Rattle.recovery_laws.proofs.AnsweredReads.{whole_call}
use Rattle.shared_lemmas.proofs.Lists.{all_at, numbered_at}
use Rattle.shared_lemmas.proofs.Tests.{same_number}

-- the contents of a trace give a write its data
own_data : (actors count : ℕ) (done rest : List TraceCall) (tag : Tag) (verb : Verb) →
    AreNumberedAfter actors [] (done ++ record { tag = tag; verb = verb } ∷ rest) → HasData count verb →
    HasContents count (contents_of count (done ++ record { tag = tag; verb = verb } ∷ rest)) tag verb
own_data actors count done rest tag (Verb.Write page content) numbered has =
    subst (IsData count) (sym (tags_give_data actors count done rest tag page content numbered)) has
own_data actors count done rest tag verb numbered has = tt

-- and each of those that are left
rest_data : (actors count : ℕ) (done rest : List TraceCall) → AreNumberedAfter actors [] (done ++ rest) →
    All (λ call. HasData count call.verb) rest →
    All (λ call. HasContents count (contents_of count (done ++ rest)) call.tag call.verb) rest
rest_data actors count done [] numbered have =
    All-nil (λ (call : TraceCall). HasContents count (contents_of count (done ++ [])) call.tag call.verb)
rest_data actors count done (call ∷ rest) numbered have =
    let joined : (done ++ call ∷ []) ++ rest ≡ done ++ call ∷ rest = append_assoc done (call ∷ []) rest in
    All-cons (λ (other : TraceCall). HasContents count (contents_of count (done ++ call ∷ rest)) other.tag other.verb) call rest
    (own_data actors count done rest call.tag call.verb numbered (All-head (λ (other : TraceCall). HasData count other.verb) call rest have))
    (subst (λ (calls : List TraceCall). All (λ other. HasContents count (contents_of count calls) other.tag other.verb) rest) joined
    (rest_data actors count (done ++ call ∷ []) rest (subst (AreNumberedAfter actors []) (sym joined) numbered)
    (All-tail (λ (other : TraceCall). HasData count other.verb) call rest have)))

-- what a channel of such a run has
pub record AnswersReads (contents : List (Tag × List ℕ)) (run : ChannelRun) : Type 0 where
  pub empty : AreEmpty run.start.base
  pub unaged : IsUnagedPast run.start contents run.past
  pub faultless : IsFaultless run

module _ (contents : List (Tag × List ℕ)) (runs : List ChannelRun) (answer : All (AnswersReads contents) runs) (tag : Tag) (reply : Reply) where
  own_read : (page : ℕ) (run : ChannelRun) (own : Bool) → own ≡ true →
      OnOwnChannel own (IsRead (ladder_in contents run) (page / length runs) (steps_on tag run)) (steps_on tag run) →
      IsRead (ladder_in contents run) (page / length runs) (steps_on tag run)
  own_read page run true is steps = steps
  own_read page run false is steps = absurd (false≢true is)

  verb_answers : (verb : Verb) → IsWhole contents runs (record { tag = tag; verb = verb }) → IsReplyBy contents runs tag reply verb →
      ReadsAnswerPlain contents runs tag verb reply
  verb_answers (Verb.Read page) whole of_run =
      on_run runs (page % length runs)
      (λ run. read_reply run.start.base.shape.bytes (ladder_in contents run) (steps_on tag run) ≡ Some reply) of_run
      (λ run there is.
      let has : AnswersReads contents run = all_at (AnswersReads contents) runs (page % length runs) run answer there in
      let call : TraceCall = record { tag = tag; verb = Verb.Read page } in
      let own : IsRead (ladder_in contents run) (page / length runs) (steps_on tag run) =
      own_read page run (page % length runs == page % length runs) (same_number (page % length runs))
      (numbered_at (λ (item : ℕ × ChannelRun). AreCallSteps contents (length runs) call item (steps_on tag item.1)) runs
      (page % length runs) run whole.on_channels there) in
      subst (λ option. IsSomeAnd option (λ other. AnswersPlain contents other tag (page / length runs) reply)) (sym there)
      (reads_answer_plain contents run tag (page / length runs) reply has.empty has.unaged has.faultless own is))
  verb_answers verb whole of_run = tt

module _ (head : Head) (run : Run) (blank : BeginsBlank head run) (has_calls : HasCalls head run) (ordered : IsOrderedRun head run) where
  abbrev contents : List (Tag × List ℕ)
  contents = data_in head run

  -- what is known of each start
  abbrev BeginsWell : Start → Type 0
  BeginsWell start = IsBlankStart head start × (start.base.shape.bytes ≡ head.sizes.bytes)

  -- and of each channel
  abbrev pub RunsWell : ChannelRun → Type 0
  RunsWell channel = BeginsWell channel.start × IsPastOf channel.start contents channel.past

  pub all_run : All RunsWell (channels_of run)
  all_run =
      all_both (λ (channel : ChannelRun). BeginsWell channel.start)
      (λ (channel : ChannelRun). IsPastOf channel.start contents channel.past) RunsWell
      (λ channel begins is_past. (begins, is_past)) (channels_of run)
      (starts_of_channels BeginsWell run.starts run.pasts
      (λ k other within. (starts_are_blank head run blank k other within, has_calls.same_bytes k other within))) ordered.are_pasts

  are_written : All (IsWrittenRun contents) (channels_of run)
  are_written =
      traced_runs_are_written contents run.calls.calls run.replies (channels_of run)
      (All-weaker RunsWell (IsTracedRun contents run.calls.calls)
      (λ channel well. record {
        has_named_pages = starts_have_named_pages channel.start well.1.is_start;
        is_lawful = well.1.is_lawful;
        has_contents =
            subst (λ (count : ℕ). All (λ call. HasContents count contents call.tag call.verb) run.calls.calls) (sym well.0.1)
            (rest_data run.calls.actors head.sizes.bytes [] run.calls.calls has_calls.numbered has_calls.have_data);
      }) (channels_of run) all_run) ordered.in_order

  pub all_answer : All (λ channel. ReadsBack channel.start.base) (channels_of run) → All IsUnaged (channels_of run) →
      All IsFaultless (channels_of run) → All (AnswersReads contents) (channels_of run)
  all_answer reads unaged faultless = λ k other within.
      let channel : ChannelRun = slice_index_or (channels_of run) k other in
      let well : RunsWell channel = all_run k other within in
      record {
        empty = λ row.
            ap {B = Row} (λ (rows : List Row). slice_index_or rows row Row.Empty) well.0.0.is_base.rows
            ∙ empty_row head.sizes.rows row;
        unaged = record {
          is_written = are_written k other within;
          reads_back = reads k other within;
          no_ageing = unaged k other within;
        };
        faultless = faultless k other within;
      }

pub first_senses_answer_reads : FirstSensesAnswerReads
first_senses_answer_reads head run blank reads has_calls ordered none unaged = λ k other within reply is.
    let call : TraceCall = slice_index_or run.calls.calls k other in
    verb_answers (data_in head run) (channels_of run)
    (all_answer head run blank has_calls ordered reads unaged (uncounted_runs_are_faultless head run ordered none)) call.tag reply call.verb
    (whole_call (data_in head run) (channels_of run) call run.replies reply (ordered.in_order.made k other within) is)
    (ordered.are_replies.are_replies k other within reply is)

-- so it is where the first read level tells the cells apart
pub blank_runs_answer_reads : BlankRunsAnswerReads
blank_runs_answer_reads head run blank apart has_calls ordered none unaged =
    first_senses_answer_reads head run blank reads has_calls ordered none (unaged_calls_age_none head run ordered unaged)
  where
    told : (channel : ChannelRun) → RunsWell head run blank has_calls ordered channel → ReadsBack channel.start.base
    told channel well =
        told_levels_read_back channel.start.base well.1.is_start.fields.matrix
        (subst (λ (levels : List ℤ). TellsApart levels channel.start.base.law) (sym well.0.0.is_base.read_levels)
        (subst (TellsApart head.read_levels) (sym well.0.0.is_base.law) apart))

    reads : All (λ channel. ReadsBack channel.start.base) (channels_of run)
    reads =
        All-weaker (RunsWell head run blank has_calls ordered) (λ (channel : ChannelRun). ReadsBack channel.start.base) told (channels_of run)
        (all_run head run blank has_calls ordered)
