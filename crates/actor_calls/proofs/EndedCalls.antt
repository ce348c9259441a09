-- How each call ended on its channel, from what its steps found and added there.
use Rattle.std.proofs.Common.{◌≡◌, ℕ, ◌/◌, ◌%◌, List, subst}
use Rattle.std.specs.Prelude.{Err, Ok, ⊤}
use Rattle.chan_calls.specs.Caller.{CallerView, HasLookRoom, HasStepRoom}
use Rattle.chan_calls.specs.Calls.{GoesOnFor, ReadsFor, ReadsRow}
use Rattle.chan_calls.specs.Stepping.{IsStepped, MakesAge, MakesTrim, Standing}
use Rattle.chan_calls.specs.Workers.{WorkerState}
use Rattle.chan_calls.specs.declared.read_reply.ReadReply.{ReadReply}
use Rattle.chan_state.specs.declared.answers.AgeAnswer.{AgeAnswer}
use Rattle.collector.specs.AloneReplies.{reply_to_collect, reply_to_write}
use Rattle.collector.specs.Collects.{MakesCollect}
use Rattle.collector.specs.Writes.{MakesWriteFor, WritesRow}
use Rattle.collector.specs.declared.replies.CollectReply.{CollectReply}
use Rattle.collector.specs.declared.replies.WriteReply.{WriteReply}
use Rattle.refresh.specs.Refreshes.{MakesRefresh, MakesRefreshFor}
use Rattle.ssd_geo.specs.declared.reply.RefreshReply.{RefreshReply}
use Rattle.ssd_geo.specs.declared.reply.Reply.{Reply}
use Rattle.ssd_geo.specs.declared.stop.StepStop.{StepStop}
use Rattle.ssd_geo.specs.declared.tag.Tag.{Tag}
use Rattle.ssd_geo.specs.declared.trace.Content.{Content}
use Rattle.ssd_geo.specs.declared.trace.Verb.{Verb}
use Rattle.ssd_histories.specs.Replies.{reply_of_refresh}
use Rattle.calls_among_others.specs.HostCalls.{AgesAmongAreAges, ReadsAmongAreReads, TrimsAmongAreTrims, reply_to_age}
use Rattle.calls_among_others.specs.WholeCalls.{CollectsAmongAreCollects, RefreshCallsAmongAreRefreshes, WritesAmongAreWrites}
use Rattle.race_laws.specs.BegunCalls.{AgesStopBegun, CollectsStopBegun, ReadsStopBegun, RefreshesStopBegun, TrimsStopBegun, WritesStopBegun}
use Rattle.actor_calls.specs.Ended.{EndsForAll, EndsForEach, EndsForEachWith}
use Rattle.actor_calls.proofs.RefusedSteps.{IsRefused, not_tried}
use Rattle.actor_calls.proofs.ToldLengths.{collect_tells, refresh_tells, step_tells, write_tells}

module _ (channels page row : ℕ) (row_is : row ≡ page / channels) (tag : Tag) (old new : CallerView) where
  -- a trim
  pub trim_answered : TrimsAmongAreTrims → (answer : Unit {0}) →
      IsStepped HasStepRoom (MakesTrim tag row) tag old new (Ok answer) →
      EndsForAll channels (page % channels) tag (Verb.Trim page) old.seen new.seen (Ok Reply.Ok)
  trim_answered law answer made start contents =
      law start contents channels page old new tag answer
      (subst (λ (r : ℕ). IsStepped HasStepRoom (MakesTrim tag r) tag old new (Ok answer)) row_is made)

  pub trim_stopped : TrimsStopBegun → (stop : StepStop) →
      IsStepped {A = Unit {0}} HasStepRoom (MakesTrim tag row) tag old new (Err stop) →
      EndsForAll channels (page % channels) tag (Verb.Trim page) old.seen new.seen (Err stop)
  trim_stopped law stop made start contents = record {
    begun =
        law start contents channels page old new tag stop
        (subst (λ (r : ℕ). IsStepped {A = Unit {0}} HasStepRoom (MakesTrim tag r) tag old new (Err stop)) row_is made);
    tells = step_tells HasStepRoom (MakesTrim tag row) tag old new stop made;
  }

  module _ (worker : WorkerState) (stood : Standing) where
    -- a read
    pub read_answered : ReadsAmongAreReads → (reply : Reply) → ReadsRow worker old stood tag row new.seen reply →
        EndsForEach worker old stood channels (page % channels) tag (Verb.Read page) new.seen (Ok reply)
    read_answered law reply reads start contents works is_of stands =
        law start contents channels page old tag new.seen reply
        (subst (λ (r : ℕ). ReadsFor start contents old tag r new.seen reply) row_is
        (reads start contents works is_of stands))

    pub read_stopped : ReadsStopBegun → (stop : StepStop) →
        IsStepped {A = ReadReply} HasLookRoom (λ now reply seen. ⊤) tag old new (Err stop) →
        EndsForEach worker old stood channels (page % channels) tag (Verb.Read page) new.seen (Err stop)
    read_stopped law stop made start contents works is_of stands = record {
      begun = law start contents channels page old new tag stop made;
      tells = step_tells {A = ReadReply} HasLookRoom (λ now reply seen. ⊤) tag old new stop made;
    }

    -- a refresh
    pub refresh_answered : RefreshCallsAmongAreRefreshes → (reply : RefreshReply) →
        MakesRefresh worker old stood tag row new.seen (Ok reply) →
        EndsForEach worker old stood channels (page % channels) tag (Verb.Refresh page) new.seen (Ok (reply_of_refresh reply))
    refresh_answered law reply made start contents works is_of stands =
        law start contents channels page old tag new.seen reply
        (subst (λ (r : ℕ). MakesRefreshFor start contents old tag r new.seen (Ok reply)) row_is
        (made start contents works is_of stands))

    pub refresh_stopped : RefreshesStopBegun → (stop : StepStop) → MakesRefresh worker old stood tag row new.seen (Err stop) →
        EndsForEach worker old stood channels (page % channels) tag (Verb.Refresh page) new.seen (Err stop)
    refresh_stopped law stop made start contents works is_of stands =
        let refused = made start contents works is_of stands in
        record {
          begun =
              law start contents channels page old tag new.seen stop
              (subst (λ (r : ℕ). MakesRefreshFor start contents old tag r new.seen (Err stop)) row_is refused);
          tells = refresh_tells start contents old tag row new.seen stop refused;
        }

    -- a write
    module _ (content : Content) (data_bytes : List ℕ) where
      pub write_answered : WritesAmongAreWrites → (reply : WriteReply) →
          WritesRow worker old stood tag row data_bytes new.seen (Ok reply) →
          EndsForEachWith worker old stood channels (page % channels) tag (Verb.Write page content) data_bytes new.seen
          (Ok (reply_to_write reply))
      write_answered law reply made start contents works is_of stands own =
          law start contents channels page content old tag old.seen new.seen reply
          (subst (λ (r : ℕ). MakesWriteFor start contents old tag r old.seen new.seen (Ok reply)) row_is
          (made start contents works is_of stands own))

      pub write_stopped : WritesStopBegun → (stop : StepStop) →
          WritesRow worker old stood tag row data_bytes new.seen (Err stop) →
          EndsForEachWith worker old stood channels (page % channels) tag (Verb.Write page content) data_bytes new.seen (Err stop)
      write_stopped law stop made start contents works is_of stands own =
          let refused = made start contents works is_of stands own in
          record {
            begun =
                law start contents channels page content old tag old.seen new.seen stop
                (subst (λ (r : ℕ). MakesWriteFor start contents old tag r old.seen new.seen (Err stop)) row_is refused);
            tells = write_tells start contents old tag row old.seen new.seen stop refused;
          }

-- a read for whose reply no memory could be set aside
pub read_not_tried : ReadsStopBegun → (channels page : ℕ) (tag : Tag) (old : CallerView) (worker : WorkerState)
    (stood : Standing) →
    EndsForEach worker old stood channels (page % channels) tag (Verb.Read page) old.seen (Err StepStop.Memory)
read_not_tried law channels page tag old worker stood start contents works is_of stands =
    let refused : IsRefused {A = ReadReply} (λ now reply seen. ⊤) tag old = not_tried (λ now reply seen. ⊤) tag old in
    record { begun = law start contents channels page old old tag refused.stop refused.refused; tells = tt }

-- an ageing
module _ (channels channel die sb amount : ℕ) (tag : Tag) (old new : CallerView) where
  pub age_answered : AgesAmongAreAges → (answer : AgeAnswer) →
      IsStepped HasStepRoom (MakesAge tag die sb amount) tag old new (Ok answer) →
      EndsForAll channels channel tag (Verb.Age channel die sb amount) old.seen new.seen (Ok (reply_to_age answer))
  age_answered law answer made start contents =
      law start contents channels channel die sb amount old new tag answer made

  pub age_stopped : AgesStopBegun → (stop : StepStop) →
      IsStepped HasStepRoom (MakesAge tag die sb amount) tag old new (Err stop) →
      EndsForAll channels channel tag (Verb.Age channel die sb amount) old.seen new.seen (Err stop)
  age_stopped law stop made start contents = record {
    begun = law start contents channels channel die sb amount old new tag stop made;
    tells = step_tells HasStepRoom (MakesAge tag die sb amount) tag old new stop made;
  }

-- a collect
module _ (channels channel : ℕ) (tag : Tag) (old new : CallerView) (worker : WorkerState) (stood stands_now : Standing) where
  pub collect_answered : CollectsAmongAreCollects → GoesOnFor worker old new stood stands_now → (reply : CollectReply) →
      MakesCollect worker old stood tag new.seen (Ok reply) →
      EndsForEach worker old stood channels channel tag (Verb.Collect channel) new.seen (Ok (reply_to_collect reply))
  collect_answered law goes reply made start contents works is_of stands =
      law start contents channels channel old tag old.seen new.seen reply
      (goes start contents works is_of stands).0.is_past.is_lawful (made start contents works is_of stands)

  pub collect_stopped : CollectsStopBegun → (stop : StepStop) → MakesCollect worker old stood tag new.seen (Err stop) →
      EndsForEach worker old stood channels channel tag (Verb.Collect channel) new.seen (Err stop)
  collect_stopped law stop made start contents works is_of stands =
      let refused = made start contents works is_of stands in
      record {
        begun = law start contents channels channel old tag old.seen new.seen stop refused;
        tells = collect_tells start contents old tag old.seen new.seen stop refused;
      }
