-- A refresh of a caller that is alone is one of calls that are served one after the other, or its look found no room.
use Rattle.std.proofs.Common.{◌≡◌, ℕ, List, None, length, subst, ap, ◌∙◌}
use Rattle.std.specs.Prelude.{Result, Ok, Err, IfOk}
use Rattle.alone_calls.proofs.RepliedReads.{is_seen}
use Rattle.alone_calls.specs.AloneCalls.{IfNoRoom, OnMemory, RepliesRefresh}
use Rattle.chan_calls.specs.Caller.{CallerView, HasLookRoom}
use Rattle.chan_calls.specs.Stepping.{Standing}
use Rattle.chan_calls.specs.Workers.{MayCall, WorkerState}
use Rattle.refresh.specs.Alone.{RefreshesAloneAreRefreshes}
use Rattle.refresh.specs.Refreshes.{MakesRefresh}
use Rattle.ssd_geo.specs.declared.entry.Entry.{Entry}
use Rattle.ssd_geo.specs.declared.reply.RefreshReply.{RefreshReply}
use Rattle.ssd_geo.specs.declared.stop.StepStop.{StepStop}
use Rattle.ssd_geo.specs.declared.tag.Tag.{Tag}

module _ (worker : WorkerState) (old new : CallerView) (stood : Standing) (tag : Tag) (row : ℕ) (alone : old.number ≡ None) where
  -- its look found room, or nothing was done
  pub refresh_room : MayCall worker old stood → (result : Result RefreshReply StepStop) →
      MakesRefresh worker old stood tag row new.seen result → IfNoRoom old new (HasLookRoom old.limit old.seen) result
  refresh_room may (Ok reply) made =
      let looks = (made may.start may.contents may.works may.is_of may.stands_for).looks in
      subst (λ (past : List Entry). HasLookRoom old.limit past) (is_seen old tag alone old.seen looks.0 looks.1) looks.2
  refresh_room may (Err (StepStop.HistoryFull told)) made =
      let looks = made may.start may.contents may.works may.is_of may.stands_for in
      let seen : looks.0 ≡ old.seen = is_seen old tag alone old.seen looks.0 looks.1 in
      record {
        seen_stays = looks.4 ∙ seen;
        no_room = subst (λ (past : List Entry). ¬ HasLookRoom old.limit past) seen looks.2;
        told_is = looks.3 ∙ ap (length {A = Entry}) seen;
      }
  refresh_room may (Err StepStop.Memory) made = tt

  -- nor was anything where memory was refused
  pub refresh_stays : MayCall worker old stood → (result : Result RefreshReply StepStop) →
      MakesRefresh worker old stood tag row new.seen result → OnMemory result (new.seen ≡ old.seen)
  refresh_stays may (Ok reply) made = tt
  refresh_stays may (Err (StepStop.HistoryFull told)) made = tt
  refresh_stays may (Err StepStop.Memory) made =
      let looks = made may.start may.contents may.works may.is_of may.stands_for in
      looks.3 ∙ is_seen old tag alone old.seen looks.0 looks.1

  -- and it has its reply
  pub refresh_replies : RefreshesAloneAreRefreshes → (result : Result RefreshReply StepStop) →
      MakesRefresh worker old stood tag row new.seen result →
      IfOk result (λ reply. RepliesRefresh worker old new stood tag row reply)
  refresh_replies refreshes_are (Ok reply) made = λ start contents works is_of stands_for.
      let refreshed = refreshes_are start contents old tag row new.seen reply alone
      (made start contents works is_of stands_for) in
      record {
        steps = refreshed.steps;
        are_steps = refreshed.are_steps;
        is_refresh = refreshed.is_refresh;
        reply_is = refreshed.reply_is;
        fault_is = refreshed.fault_is;
      }
  refresh_replies refreshes_are (Err stop) made = tt
