-- Each read of a whole run of a blank drive answers what the calls before it left in its page.
use Rattle.std.proofs.Common.{ℕ, ◌≡◌, ◌/◌, ◌%◌, List, [], ◌∷◌, ◌++◌, length, sym, ap, subst, ◌∙◌, Option, Some, None, All, append_assoc, append-nil, inl, inr}
use Rattle.std.specs.Prelude.{map, slice_index_or}
use Rattle.std.specs.Option.{ForSome}
use Rattle.std.proofs.lemmas.List.Elements.{All-head, All-map, All-tail, All-weaker}
use Rattle.ssd_formats.specs.ImageHead.{Head}
use Rattle.ssd_geo.specs.declared.reply.Reply.{Reply}
use Rattle.ssd_geo.specs.declared.row.Row.{Row}
use Rattle.ssd_geo.specs.declared.tag.Tag.{Tag}
use Rattle.ssd_geo.specs.declared.trace.TraceCall.{TraceCall}
use Rattle.ssd_geo.specs.declared.trace.Verb.{Verb}
use Rattle.ssd_histories.specs.CallsInOrder.{AreNumberedAfter, ChannelRun, reply_to}
use Rattle.ssd_histories.specs.PlainMap.{PlainRow, nothing, plain_in_image, plain_of}
use Rattle.ssd_histories.specs.Start.{Start}
use Rattle.serial_laws.proofs.NumberedTags.{numbered_front}
use Rattle.serial_laws.proofs.OrderedCalls.{cut}
use Rattle.serial_laws.proofs.ServedChains.{nothing_served}
use Rattle.serial_laws.proofs.ServedVerbs.{IsCallCut}
use Rattle.run_laws.specs.Headline.{IsStoppedRun, IsWholeRun}
use Rattle.run_laws.specs.Runs.{Run, channels_of, data_in}
use Rattle.run_laws.specs.SerialRuns.{HasCalls}
use Rattle.run_laws.proofs.ChangedRuns.{runs_as_many}
use Rattle.complete_runs.specs.BlankRuns.{BeginsBlank}
use Rattle.complete_runs.specs.OrderedRuns.{IsOrderedRun}
use Rattle.complete_runs.specs.PlainAnswers.{AgesNone, AnswersPlain, ReadsAnswerPlain, answer_of}
use Rattle.complete_runs.specs.ToldLevels.{TellsApart}
use Rattle.complete_runs.specs.TraceAnswers.{AnswersHeld, AreAnsweredHeld, BlankRunsAnswerTraces}
use Rattle.complete_runs.specs.UncountedRuns.{AreAnswered, CountNone}
use Rattle.complete_runs.proofs.AnsweredCalls.{blank_runs_answer_reads}
use Rattle.complete_runs.proofs.BlankStarts.{IsBlankStart, starts_are_blank}
use Rattle.complete_runs.proofs.CallEntries.{all_front}
use Rattle.complete_runs.proofs.FirstSteps.{on_run}
use Rattle.complete_runs.proofs.KnownRows.{empty_row}
use Rattle.complete_runs.proofs.PagesHeld.{AreFoundHeld, FoundHeld, HoldPages, all_found, all_stay, others_differ, taken_before}
use Rattle.complete_runs.proofs.TakenWrites.{TakesAll, all_channels_take}
use Rattle.shared_lemmas.proofs.Lists.{all_at}

-- a channel before its first entry
abbrev unbegun : Start → ChannelRun
unbegun start = record { start = start; past = [] }

-- the rows of a channel hold nothing
abbrev HoldsNothing : List (Tag × List ℕ) → ChannelRun → Type 0
HoldsNothing contents run = (row : ℕ) → plain_of run.start.base contents run.past row ≡ nothing

blank_holds_nothing : (contents : List (Tag × List ℕ)) (head : Head) (start : Start) → IsBlankStart head start → HoldsNothing contents (unbegun start)
blank_holds_nothing contents head start blank row =
    ap {B = PlainRow} plain_in_image
    (ap {B = Row} (λ (rows : List Row). slice_index_or rows row Row.Empty) blank.is_base.rows ∙ empty_row head.sizes.rows row)

blank_pages : (head : Head) (run : Run) → BeginsBlank head run →
    HoldPages (data_in head run) head.sizes.bytes (length run.starts) [] (map unbegun run.starts)
blank_pages head run blank page channel is =
    all_at (HoldsNothing (data_in head run)) (map unbegun run.starts) (page % length run.starts) channel
    (All-map (HoldsNothing (data_in head run)) unbegun run.starts
    (All-weaker (IsBlankStart head) (λ (start : Start). HoldsNothing (data_in head run) (unbegun start))
    (blank_holds_nothing (data_in head run) head) run.starts (starts_are_blank head run blank))) is (page / length run.starts)

module _ (contents : List (Tag × List ℕ)) (count channels : ℕ) (runs : List ChannelRun) (many : length runs ≡ channels)
    (replies : List (List Reply)) where
  one_answers : (earlier : List TraceCall) (tag : Tag) (verb : Verb) (reply : Reply) → ReadsAnswerPlain contents runs tag verb reply →
      FoundHeld contents count channels runs earlier tag verb → AnswersHeld count earlier verb reply
  one_answers earlier tag (Verb.Read page) reply plain found =
      on_run runs (page % length runs) (λ run. AnswersPlain contents run tag (page / length runs) reply) plain
      (λ run there answers.
      ap {B = Option Reply} answer_of
      (sym (subst (λ (n : ℕ). FoundHeld contents count n runs earlier tag (Verb.Read page)) (sym many) found run answers.look answers.rest there
      answers.are_steps)) ∙ answers.is_answer)
  one_answers earlier tag verb reply plain found = tt

  all_answer_held : (earlier calls : List TraceCall) →
      All (λ call. ForSome (reply_to replies call.tag) (ReadsAnswerPlain contents runs call.tag call.verb)) calls →
      AreFoundHeld contents count channels runs earlier calls → AreAnsweredHeld replies count earlier calls
  all_answer_held earlier [] plain found = tt
  all_answer_held earlier (call ∷ calls) plain found = (
    λ reply is.
        one_answers earlier call.tag call.verb reply
        (All-head (λ (other : TraceCall). ForSome (reply_to replies other.tag) (ReadsAnswerPlain contents runs other.tag other.verb)) call calls
        plain reply is) found.0,
    all_answer_held (earlier ++ call ∷ []) calls
        (All-tail (λ (other : TraceCall). ForSome (reply_to replies other.tag) (ReadsAnswerPlain contents runs other.tag other.verb)) call calls
        plain) found.1,
  )

-- calls without replies
none_answers_held : (replies : List (List Reply)) (count : ℕ) (earlier calls : List TraceCall) →
    All (λ call. reply_to replies call.tag ≡ None) calls → AreAnsweredHeld replies count earlier calls
none_answers_held replies count earlier [] none = tt
none_answers_held replies count earlier (call ∷ calls) none = (
  λ reply is. absurd (no_reply reply (sym (All-head (λ (other : TraceCall). reply_to replies other.tag ≡ None) call calls none) ∙ is)),
  none_answers_held replies count (earlier ++ call ∷ []) calls
      (All-tail (λ (other : TraceCall). reply_to replies other.tag ≡ None) call calls none),
)
  where
    no_reply : (reply : Reply) → ◌≡◌ {A = Option Reply} None (Some reply) → ⊥
    no_reply reply is = absurd (cc)

joined_answer_held : (replies : List (List Reply)) (count : ℕ) (earlier served rest : List TraceCall) →
    AreAnsweredHeld replies count earlier served → AreAnsweredHeld replies count (earlier ++ served) rest →
    AreAnsweredHeld replies count earlier (served ++ rest)
joined_answer_held replies count earlier [] rest first second =
    subst (λ (list : List TraceCall). AreAnsweredHeld replies count list rest) (append-nil earlier) second
joined_answer_held replies count earlier (call ∷ served) rest first second = (
  first.0,
  joined_answer_held replies count (earlier ++ call ∷ []) served rest first.1
      (subst (λ (list : List TraceCall). AreAnsweredHeld replies count list rest) (sym (append_assoc earlier (call ∷ []) served)) second),
)

-- the answers of the first of some calls
front_answers : (P : TraceCall → Type 0) (served rest calls : List TraceCall) → calls ≡ served ++ rest → All P calls → All P served
front_answers P served rest calls are all = all_front P served rest (subst (All P) are all)

module _ (head : Head) (run : Run) (blank : BeginsBlank head run) (none_weak : head.weak ≡ []) (apart : TellsApart head.read_levels head.law)
    (has_calls : HasCalls head run) (ordered : IsOrderedRun head run) (none : CountNone (channels_of run) run.faults)
    (unaged : All (λ call. AgesNone call.verb) run.calls.calls) where
  many : length (channels_of run) ≡ length run.starts
  many = runs_as_many run.starts run.pasts ordered.as_many_pasts

  plain : AreAnswered run (λ call reply. ReadsAnswerPlain (data_in head run) (channels_of run) call.tag call.verb reply)
  plain = blank_runs_answer_reads head run blank apart has_calls ordered none unaged

  taken : All TakesAll (channels_of run)
  taken = all_channels_take head run blank none_weak ordered none

  whole_answers : IsWholeRun head run → AreAnsweredHeld run.replies head.sizes.bytes [] run.calls.calls
  whole_answers whole =
      all_answer_held (data_in head run) head.sizes.bytes (length run.starts) (channels_of run) many run.replies [] run.calls.calls plain
      (all_found head.sizes.bytes run.calls.actors (length run.starts) run.calls.calls has_calls.numbered run.replies [] [] (sym (append-nil run.calls.calls))
      whole.are_served has_calls.numbered (nothing_served (data_in head run) run.starts) (blank_pages head run blank) tt taken)

  stopped_answers : (channel entries : ℕ) → IsStoppedRun head run channel entries →
      AreAnsweredHeld run.replies head.sizes.bytes [] run.calls.calls
  stopped_answers channel entries stopped =
      let stop = stopped.is_stop in
      let cut_in : IsCallCut (data_in head run) stop.call stop.before.channels (channels_of run) =
      cut (data_in head run) run.starts run.calls.actors run.calls.calls run.replies _ channel entries stop has_calls.numbered in
      let numbered : AreNumberedAfter run.calls.actors [] (stop.served ++ stop.call ∷ stop.rest) =
      subst (λ list. AreNumberedAfter run.calls.actors [] list) stop.are_calls has_calls.numbered in
      let before : AreFoundHeld (data_in head run) head.sizes.bytes (length run.starts) stop.before.channels [] stop.served =
      all_found head.sizes.bytes run.calls.actors (length run.starts) run.calls.calls has_calls.numbered run.replies (stop.call ∷ stop.rest) []
      stop.are_calls stop.are_served
      (numbered_front run.calls.actors [] stop.served (stop.call ∷ stop.rest) numbered) (nothing_served (data_in head run) run.starts)
      (blank_pages head run blank) tt
      (taken_before stop.call.tag stop.before.channels (channels_of run) cut_in.runs taken) in
      let found : AreFoundHeld (data_in head run) head.sizes.bytes (length run.starts) (channels_of run) [] stop.served =
      all_stay (data_in head run) head.sizes.bytes (length run.starts) stop.before.channels (channels_of run) stop.call cut_in.runs [] stop.served
      (others_differ head.sizes.bytes run.calls.actors (length run.starts) run.calls.calls has_calls.numbered run.replies stop.served stop.rest stop.call numbered) before in
      subst (λ (list : List TraceCall). AreAnsweredHeld run.replies head.sizes.bytes [] list) (sym stop.are_calls)
      (joined_answer_held run.replies head.sizes.bytes [] stop.served (stop.call ∷ stop.rest)
      (all_answer_held (data_in head run) head.sizes.bytes (length run.starts) (channels_of run) many run.replies [] stop.served
      (front_answers
      (λ (call : TraceCall). ForSome (reply_to run.replies call.tag) (ReadsAnswerPlain (data_in head run) (channels_of run) call.tag call.verb))
      stop.served (stop.call ∷ stop.rest) run.calls.calls stop.are_calls plain) found)
      (none_answers_held run.replies head.sizes.bytes stop.served (stop.call ∷ stop.rest) stop.no_replies))

pub blank_runs_answer_traces : BlankRunsAnswerTraces
blank_runs_answer_traces head run blank none_weak apart has_calls ordered (inl whole) none unaged =
    whole_answers head run blank none_weak apart has_calls ordered none unaged whole
blank_runs_answer_traces head run blank none_weak apart has_calls ordered (inr stopped) none unaged =
    stopped_answers head run blank none_weak apart has_calls ordered none unaged stopped.0 stopped.1 stopped.2
