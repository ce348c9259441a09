-- No step in which no call of a die failed decides a reply that tells of such a call.
use Rattle.std.proofs.Common.{ℕ, ◌≡◌, ◌%◌, ◌<◌, true, false, List, length, All, Option, Some, None, refl, sym, subst}
use Rattle.std.specs.Prelude.{IfSome, option_map, slice_get, slice_index_or, unwrap_or}
use Rattle.std.proofs.lemmas.List.Elements.{All-weaker}
use Rattle.ssd_geo.specs.Ladder.{LadderState, asks, recovered, uncorrectable}
use Rattle.ssd_geo.specs.declared.entry.Entry.{Entry}
use Rattle.ssd_geo.specs.declared.kind.Kind.{Kind}
use Rattle.ssd_geo.specs.declared.reply.RefreshReply.{RefreshReply}
use Rattle.ssd_geo.specs.declared.reply.Reply.{Reply}
use Rattle.ssd_geo.specs.declared.row.Row.{Row}
use Rattle.ssd_geo.specs.declared.tag.Tag.{Tag}
use Rattle.ssd_geo.specs.declared.trace.TraceCall.{TraceCall}
use Rattle.ssd_geo.specs.declared.trace.Verb.{Verb}
use Rattle.ssd_histories.specs.CallSteps.{CallStep, is_fault}
use Rattle.ssd_histories.specs.CallsInOrder.{ChannelRun, IsReplyBy, ladder_in, steps_on}
use Rattle.ssd_histories.specs.Replies.{collect_decided, collect_reply, fault_reply, first_reply, is_die_fault, read_decided, read_reply, refresh_reply, reply_of_ladder, reply_of_refresh, single_decided, single_reply, write_decided, write_reply}
use Rattle.run_laws.specs.Runs.{channels_of, data_in}
use Rattle.run_laws.proofs.ChangedRuns.{runs_as_many}
use Rattle.complete_runs.specs.UncountedRuns.{IsFaultless, UncountedRunsReplyNoFault, tells_fault}
use Rattle.complete_runs.proofs.DrainedReplies.{Calm, RefreshesCalmly, drained_tell_none, none_failed, refresh_is_calm}
use Rattle.complete_runs.proofs.FaultlessPasts.{uncounted_runs_are_faultless}
use Rattle.complete_runs.proofs.FirstSteps.{first_has, if_some, on_run, steps_have}
use Rattle.shared_lemmas.proofs.Lists.{all_at}

-- a reply tells of no fault
abbrev TellsNone : Reply → Type 0
TellsNone reply = tells_fault reply ≡ false

fault_tells_none : (kind : Kind) → is_fault kind ≡ false → IfSome (fault_reply kind) TellsNone
fault_tells_none kind calm =
    subst (λ (failed : Option ℕ). IfSome (option_map (λ die. Reply.DieFault die) failed) TellsNone) (sym (none_failed kind calm)) tt

-- what each verb's steps decide
write_tells_none : (kind : Kind) → is_fault kind ≡ false → IfSome (write_decided kind) TellsNone
write_tells_none (Kind.Write row slot) calm = refl
write_tells_none (Kind.Refused row true) calm = refl
write_tells_none (Kind.Refused row false) calm = refl
write_tells_none kind calm = fault_tells_none kind calm

ladder_tells_none : (count : ℕ) (state : LadderState) → IfSome (reply_of_ladder count state) TellsNone
ladder_tells_none count (asks place level) = tt
ladder_tells_none count (recovered rung word) = refl
ladder_tells_none count uncorrectable = refl

read_tells_none : (count : ℕ) (ladder : List Entry → ℕ → LadderState) (past : List Entry) (kind : Kind) → is_fault kind ≡ false →
    IfSome (read_decided count ladder past kind) TellsNone
read_tells_none count ladder past (Kind.Look row Row.Empty closed) calm = refl
read_tells_none count ladder past (Kind.Look row Row.Lost closed) calm = refl
read_tells_none count ladder past (Kind.Leave at) calm = ladder_tells_none count (ladder past at)
read_tells_none count ladder past kind calm = fault_tells_none kind calm

single_tells_none : (kind : Kind) → is_fault kind ≡ false → IfSome (single_decided kind) TellsNone
single_tells_none (Kind.Trim row) calm = refl
single_tells_none (Kind.Age die sb amount) calm = refl
single_tells_none kind calm = fault_tells_none kind calm

collect_tells_none : (kind : Kind) → is_fault kind ≡ false → IfSome (collect_decided kind) TellsNone
collect_tells_none (Kind.Erase sb) calm = refl
collect_tells_none (Kind.BadErase sb die false) calm = refl
collect_tells_none kind calm = fault_tells_none kind calm

idle_else : (option : Option Reply) → IfSome option TellsNone → TellsNone (unwrap_or option Reply.Idle)
idle_else None has = refl
idle_else (Some reply) has = has

refreshed_tells_none : (reply : RefreshReply) → is_die_fault reply ≡ false → TellsNone (reply_of_refresh reply)
refreshed_tells_none (RefreshReply.DieFault die) calm = calm
refreshed_tells_none reply calm = refl

-- the refresh of one page
refresh_tells_none : (option : Option RefreshReply) (reply : Reply) → IfSome option RefreshesCalmly →
    option_map reply_of_refresh option ≡ Some reply → TellsNone reply
refresh_tells_none None reply calm is = absurd (cc)
refresh_tells_none (Some refreshed) reply calm is =
    if_some (Some (reply_of_refresh refreshed)) TellsNone reply (refreshed_tells_none refreshed calm) is

module _ (contents : List (Tag × List ℕ)) (runs : List ChannelRun) (faultless : All IsFaultless runs) (some : 0 < length runs) where
  calm_steps : (tag : Tag) (channel : ℕ) (run : ChannelRun) → slice_get runs channel ≡ Some run → All Calm (steps_on tag run)
  calm_steps tag channel run is =
      steps_have (λ kind. is_fault kind ≡ false) tag run.past (all_at IsFaultless runs channel run faultless is)

  -- what the steps on one channel decide, step by step
  first_tells_none : (tag : Tag) (channel : ℕ) (run : ChannelRun) (decided : CallStep → Option Reply) →
      ((step : CallStep) → Calm step → IfSome (decided step) TellsNone) → slice_get runs channel ≡ Some run →
      IfSome (first_reply decided (steps_on tag run)) TellsNone
  first_tells_none tag channel run decided each is =
      first_has decided TellsNone (steps_on tag run)
      (All-weaker Calm (λ (step : CallStep). IfSome (decided step) TellsNone) each (steps_on tag run) (calm_steps tag channel run is))

  reply_tells_none : (tag : Tag) (reply : Reply) (verb : Verb) → IsReplyBy contents runs tag reply verb → TellsNone reply
  reply_tells_none tag reply (Verb.Write page content) of_run =
      on_run runs (page % length runs) (λ run. write_reply (steps_on tag run) ≡ Some reply) of_run
      (λ run there is.
      if_some (write_reply (steps_on tag run)) TellsNone reply
      (first_tells_none tag (page % length runs) run (λ step. write_decided step.entry.kind)
      (λ step calm. write_tells_none step.entry.kind calm) there) is)
  reply_tells_none tag reply (Verb.Read page) of_run =
      on_run runs (page % length runs)
      (λ run. read_reply run.start.base.shape.bytes (ladder_in contents run) (steps_on tag run) ≡ Some reply) of_run
      (λ run there is.
      if_some (read_reply run.start.base.shape.bytes (ladder_in contents run) (steps_on tag run)) TellsNone reply
      (first_tells_none tag (page % length runs) run
      (λ step. read_decided run.start.base.shape.bytes (ladder_in contents run) step.past step.entry.kind)
      (λ step calm. read_tells_none run.start.base.shape.bytes (ladder_in contents run) step.past step.entry.kind calm) there) is)
  reply_tells_none tag reply (Verb.Trim page) of_run =
      on_run runs (page % length runs) (λ run. single_reply (steps_on tag run) ≡ Some reply) of_run
      (λ run there is.
      if_some (single_reply (steps_on tag run)) TellsNone reply
      (first_tells_none tag (page % length runs) run (λ step. single_decided step.entry.kind)
      (λ step calm. single_tells_none step.entry.kind calm) there) is)
  reply_tells_none tag reply (Verb.Refresh page) of_run =
      on_run runs (page % length runs)
      (λ run. option_map reply_of_refresh (refresh_reply (ladder_in contents run) (steps_on tag run)) ≡ Some reply) of_run
      (λ run there is.
      refresh_tells_none (refresh_reply (ladder_in contents run) (steps_on tag run)) reply
      (refresh_is_calm (ladder_in contents run) (steps_on tag run) (calm_steps tag (page % length runs) run there)) is)
  reply_tells_none tag reply (Verb.Collect channel) of_run =
      on_run runs channel (λ run. collect_reply (steps_on tag run) ≡ reply) of_run
      (λ run there is.
      subst TellsNone is
      (idle_else (first_reply (λ step. collect_decided step.entry.kind) (steps_on tag run))
      (first_tells_none tag channel run (λ step. collect_decided step.entry.kind)
      (λ step calm. collect_tells_none step.entry.kind calm) there)))
  reply_tells_none tag reply (Verb.Drain count) is = drained_tell_none contents runs tag reply faultless some is
  reply_tells_none tag reply (Verb.Age channel die sb amount) of_run =
      on_run runs channel (λ run. single_reply (steps_on tag run) ≡ Some reply) of_run
      (λ run there is.
      if_some (single_reply (steps_on tag run)) TellsNone reply
      (first_tells_none tag channel run (λ step. single_decided step.entry.kind)
      (λ step calm. single_tells_none step.entry.kind calm) there) is)

pub uncounted_runs_reply_no_fault : UncountedRunsReplyNoFault
uncounted_runs_reply_no_fault head run ordered none some = λ k other within reply is.
    let call : TraceCall = slice_index_or run.calls.calls k other in
    let some_channel : 0 < length (channels_of run) =
    subst (λ (n : ℕ). 0 < n) (sym (runs_as_many run.starts run.pasts ordered.as_many_pasts)) some in
    reply_tells_none (data_in head run) (channels_of run) (uncounted_runs_are_faultless head run ordered none) some_channel call.tag
    reply call.verb (ordered.are_replies.are_replies k other within reply is)
