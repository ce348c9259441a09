-- A blank drive without weak blocks refuses no write before a call of a die fails, so each write that was answered was done.
use Rattle.std.proofs.Common.{ℕ, ◌≡◌, ◌%◌, ◌==◌, not, true, false, List, [], ◌∷◌, length, All, refl, ap, ◌∙◌, Some}
use Rattle.std.specs.Prelude.{IfSome, slice_index_or}
use Rattle.std.specs.List.{list_any}
use Rattle.std.proofs.lemmas.Bool.{true≢false}
use Rattle.std.proofs.lemmas.List.Elements.{All-cons, All-head, All-nil, All-tail, All-weaker}
use Rattle.ssd_formats.specs.ImageHead.{Head, IsHead}
use Rattle.ssd_geo.specs.Ladder.{LadderState}
use Rattle.ssd_geo.specs.declared.base.ChannelBase.{ChannelBase}
use Rattle.ssd_geo.specs.declared.entry.Entry.{Entry}
use Rattle.ssd_geo.specs.declared.kind.Kind.{Kind}
use Rattle.ssd_geo.specs.declared.reply.Reply.{Reply}
use Rattle.ssd_geo.specs.declared.tag.Tag.{Tag}
use Rattle.ssd_geo.specs.declared.trace.TraceCall.{TraceCall}
use Rattle.ssd_geo.specs.declared.trace.Verb.{Verb}
use Rattle.ssd_geo.specs.declared.weak.Weak.{Weak}
use Rattle.ssd_histories.specs.CallSteps.{CallStep, is_fault}
use Rattle.ssd_histories.specs.CallsInOrder.{ChannelRun, IsReplyBy, steps_on}
use Rattle.ssd_histories.specs.Lawful.{IsLawfulBy, IsLawfulKind}
use Rattle.ssd_histories.specs.Replies.{write_decided, write_reply}
use Rattle.ssd_histories.specs.Standing.{IsPastOf, IsStart}
use Rattle.ssd_histories.specs.Start.{Start}
use Rattle.blank_laws.proofs.BlankImages.{blank_images_take_writes}
use Rattle.history_laws.specs.BlankChannels.{TakesWrites, has_no_bad_by_fault, has_no_weak_block, is_bad_by_fault}
use Rattle.history_laws.proofs.BlankChannels.{none_is_refused}
use Rattle.serial_laws.proofs.Lists.{all_both}
use Rattle.run_laws.specs.Runs.{Run, channels_of, data_in}
use Rattle.complete_runs.specs.BlankRuns.{BeginsBlank}
use Rattle.complete_runs.specs.OrderedRuns.{IsOrderedRun}
use Rattle.complete_runs.specs.TakenWrites.{BlankRunsTakeWrites, IsDone}
use Rattle.complete_runs.specs.UncountedRuns.{CountNone, IsFaultless}
use Rattle.complete_runs.proofs.BlankStarts.{IsBlankStart, starts_are_blank, starts_of_channels}
use Rattle.complete_runs.proofs.FaultlessPasts.{uncounted_runs_are_faultless}
use Rattle.complete_runs.proofs.FirstSteps.{first_has, if_some, on_run, steps_have}
use Rattle.shared_lemmas.proofs.Lists.{all_at}

-- an entry refuses no write, and no call of a die failed in it
abbrev pub IsRefused : Kind → Type 0
IsRefused (Kind.Refused row worn) = Unit {0}
IsRefused kind = ⊥

pub record IsTaken (kind : Kind) : Type 0 where
  pub calm : is_fault kind ≡ false
  pub not_refused : IsRefused kind → ⊥

-- an entry in which no call of a die failed tells of no program and no erase in which one did
not_bad : (kind : Kind) → is_fault kind ≡ false → not (is_bad_by_fault kind) ≡ true
not_bad (Kind.BadWrite row slot die fault) calm = ap not calm
not_bad (Kind.BadCopy at slot die fault) calm = ap not calm
not_bad (Kind.BadErase sb die fault) calm = ap not calm
not_bad kind calm = refl

none_bad : (past : List Entry) → All (λ entry. is_fault entry.kind ≡ false) past → has_no_bad_by_fault past ≡ true
none_bad [] calm = refl
none_bad (entry ∷ past) calm =
    rw (not_bad entry.kind (All-head (λ (other : Entry). is_fault other.kind ≡ false) entry past calm))
    (none_bad past (All-tail (λ (other : Entry). is_fault other.kind ≡ false) entry past calm))

-- a channel that takes writes refuses none
none_refused : (state : ℕ → LadderState) (base : ChannelBase) (past : List Entry) (tag : Tag) (kind : Kind) → TakesWrites base past →
    IsLawfulKind state base past tag kind → IsRefused kind → ⊥
none_refused state base past tag (Kind.Refused row worn) takes lawful is = none_is_refused base past worn takes lawful
none_refused state base past tag kind takes lawful is = absurd is

module _ (head : Head) (start : Start) (is_head : IsHead head) (blank : IsBlankStart head start) (none_weak : head.weak ≡ [])
    (is_start : IsStart start) where
  no_weak : has_no_weak_block start.base ≡ true
  no_weak =
      ap (λ (weak : List Weak). not (list_any (λ one. one.channel == start.base.channel) weak)) (blank.is_base.weak ∙ none_weak)

  all_taken : (ladder : List Entry → ℕ → LadderState) (past : List Entry) → IsLawfulBy ladder start.base past →
      All (λ entry. is_fault entry.kind ≡ false) past → All (λ entry. IsTaken entry.kind) past
  all_taken ladder [] lawful calm = All-nil (λ (entry : Entry). IsTaken entry.kind)
  all_taken ladder (entry ∷ past) lawful calm =
      let older : All (λ other. is_fault other.kind ≡ false) past =
      All-tail (λ (other : Entry). is_fault other.kind ≡ false) entry past calm in
      let takes : TakesWrites start.base past =
      blank_images_take_writes ladder head blank.channel start past is_head blank.is_base no_weak is_start lawful.0 (none_bad past older) in
      All-cons (λ (other : Entry). IsTaken other.kind) entry past
      (record {
        calm = All-head (λ (other : Entry). is_fault other.kind ≡ false) entry past calm;
        not_refused = none_refused (ladder past) start.base past entry.tag entry.kind takes lawful.1.meets;
      })
      (all_taken ladder past lawful.0 older)

-- so a write's steps decide that it was done
taken_is_done : (kind : Kind) → IsTaken kind → IfSome (write_decided kind) (λ reply. reply ≡ Reply.Ok)
taken_is_done (Kind.Write row slot) taken = refl
taken_is_done (Kind.Refused row worn) taken = absurd (taken.not_refused tt)
taken_is_done (Kind.FaultSense at place level) taken = absurd (true≢false taken.calm)
taken_is_done (Kind.FaultAge die sb amount) taken = absurd (true≢false taken.calm)
taken_is_done (Kind.BadWrite row slot die true) taken = absurd (true≢false taken.calm)
taken_is_done (Kind.BadCopy at slot die true) taken = absurd (true≢false taken.calm)
taken_is_done (Kind.BadErase sb die true) taken = absurd (true≢false taken.calm)
taken_is_done (Kind.BadWrite row slot die false) taken = tt
taken_is_done (Kind.BadCopy at slot die false) taken = tt
taken_is_done (Kind.BadErase sb die false) taken = tt
taken_is_done kind taken = tt

abbrev pub TakesAll : ChannelRun → Type 0
TakesAll run = All (λ entry. IsTaken entry.kind) run.past

write_is_done : (contents : List (Tag × List ℕ)) (runs : List ChannelRun) → All TakesAll runs → (tag : Tag) (reply : Reply) (verb : Verb) →
    IsReplyBy contents runs tag reply verb → IsDone verb reply
write_is_done contents runs taken tag reply (Verb.Write page content) of_run =
    on_run runs (page % length runs) (λ run. write_reply (steps_on tag run) ≡ Some reply) of_run
    (λ run there is.
    if_some (write_reply (steps_on tag run)) (λ given. given ≡ Reply.Ok) reply
    (first_has (λ step. write_decided step.entry.kind) (λ given. given ≡ Reply.Ok) (steps_on tag run)
    (All-weaker (λ (step : CallStep). IsTaken step.entry.kind)
    (λ (step : CallStep). IfSome (write_decided step.entry.kind) (λ given. given ≡ Reply.Ok))
    (λ step is_taken. taken_is_done step.entry.kind is_taken) (steps_on tag run)
    (steps_have IsTaken tag run.past (all_at TakesAll runs (page % length runs) run taken there)))) is)
write_is_done contents runs taken tag reply verb of_run = tt

-- a channel of a blank image with a past of its start
abbrev BeganBlank : Head → List (Tag × List ℕ) → ChannelRun → Type 0
BeganBlank head contents channel = IsBlankStart head channel.start × IsPastOf channel.start contents channel.past

all_began_blank : (head : Head) (run : Run) → BeginsBlank head run → IsOrderedRun head run →
    All (BeganBlank head (data_in head run)) (channels_of run)
all_began_blank head run blank ordered =
    all_both (λ (channel : ChannelRun). IsBlankStart head channel.start)
    (λ (channel : ChannelRun). IsPastOf channel.start (data_in head run) channel.past) (BeganBlank head (data_in head run))
    (λ channel is_blank is_past. (is_blank, is_past)) (channels_of run)
    (starts_of_channels (IsBlankStart head) run.starts run.pasts (starts_are_blank head run blank)) ordered.are_pasts

-- each channel of the run takes all its writes
pub all_channels_take : (head : Head) (run : Run) → BeginsBlank head run → head.weak ≡ [] → IsOrderedRun head run →
    CountNone (channels_of run) run.faults → All TakesAll (channels_of run)
all_channels_take head run blank none_weak ordered none =
    all_both (BeganBlank head (data_in head run)) IsFaultless TakesAll
    (λ channel began calm.
    all_taken head channel.start blank.is_head began.0 none_weak began.1.is_start _ channel.past began.1.is_lawful calm) (channels_of run)
    (all_began_blank head run blank ordered) (uncounted_runs_are_faultless head run ordered none)

pub blank_runs_take_writes : BlankRunsTakeWrites
blank_runs_take_writes head run blank none_weak ordered none = λ k other within reply is.
    let call : TraceCall = slice_index_or run.calls.calls k other in
    write_is_done (data_in head run) (channels_of run) (all_channels_take head run blank none_weak ordered none) call.tag reply call.verb
    (ordered.are_replies.are_replies k other within reply is)
