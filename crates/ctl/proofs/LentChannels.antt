-- What does a call come to that a caller makes who is alone on a channel? The channel that was lent has what the call added.
use Rattle.std.proofs.Common.{◌≡◌, ℕ, ◌/◌, true, false, List, length, Ok, Err, Result, refl, sym, subst, ap, ◌∙◌, inl, inr}
use Rattle.std.specs.Prelude.{IfOk}
use Rattle.alone_calls.proofs.RoomTests.{look_room, none_for_look, none_for_step, step_room}
use Rattle.alone_calls.specs.AloneCalls.{BreaksOffRead, EndsCollect, EndsWrite, FindsNoRoom, FindsRoom, IfNoRoom, OnMemory, RepliesRead, RepliesRefresh}
use Rattle.chan_calls.proofs.AloneSteps.{is_of_standing}
use Rattle.chan_calls.specs.Alone.{view_of_lent}
use Rattle.chan_calls.specs.Caller.{CallerView, HasLookRoom, HasStepRoom, IsOf}
use Rattle.chan_calls.specs.Calls.{GoesOnFor, WritesData}
use Rattle.chan_calls.specs.Stepping.{GoesOn, Standing}
use Rattle.chan_calls.specs.Workers.{MayCall, WorkerState, WorksFor}
use Rattle.chan_state.specs.ChannelState.{StandsFor}
use Rattle.collector.specs.Writes.{MayWrite}
use Rattle.run_laws.specs.RepliedCalls.{HasAged, IsRepliedBy}
use Rattle.run_laws.specs.StoppedRuns.{IsStoppedBy, has_first_room}
use Rattle.ssd_formats.specs.TraceText.{content_bytes}
use Rattle.ssd_geo.specs.Coding.{coding_of}
use Rattle.ssd_geo.specs.declared.entry.Entry.{Entry}
use Rattle.ssd_geo.specs.declared.reply.RefreshReply.{RefreshReply}
use Rattle.ssd_geo.specs.declared.reply.Reply.{Reply}
use Rattle.ssd_geo.specs.declared.stop.StepStop.{StepStop}
use Rattle.ssd_geo.specs.declared.tag.Tag.{Tag}
use Rattle.ssd_geo.specs.declared.trace.Content.{Content}
use Rattle.ssd_geo.specs.declared.trace.Verb.{Verb}
use Rattle.ssd_histories.specs.HistoryRoom.{found_room, has_step_room}
use Rattle.ssd_histories.specs.PastPages.{ladder_of}
use Rattle.ssd_histories.specs.SerialCalls.{SerialCollect, SerialWrite}
use Rattle.ssd_histories.specs.SerialStop.{IsCut}
use Rattle.ssd_histories.specs.ServedCalls.{after_trim}
use Rattle.ssd_histories.specs.Start.{Start}
use Rattle.ctl.specs.Asked.{HasOwnData, settings}
use Rattle.ctl.specs.BrokenOff.{IsBrokenOffBy}
use Rattle.ctl.specs.ChannelCalls.{EndsOn, ForEach, IsFullFor, IsServedOn, MayRefreshOn, MayServeOn, RefreshEndsOn}
use Rattle.ctl.specs.Seen.{SeenChannel}

-- a worker works for the starts for which its settings do
works_too : (worker : WorkerState) (start : Start) → WorksFor (settings worker) start → WorksFor worker start
works_too worker start works = record {
  shape_is = works.shape_is;
  session_is = works.session_is;
  code_is = works.code_is;
  iterations_are = works.iterations_are;
  levels_are = works.levels_are;
  step_is = works.step_is;
}

-- what a channel that was lent and given back has is what it had while it was held
pub held : {X : Type 0} (P : X → X → Type 0) (before after old new : X) → before ≡ old → new ≡ after → P before after →
    P old new
held {X} P before after old new was is holds =
    subst (λ (o : X). P o new) was (subst (λ (n : X). P before n) (sym is) holds)

module _ (worker : WorkerState) (old : SeenChannel) (lent : ℕ) (tag : Tag) where
  abbrev before : CallerView
  before = view_of_lent old.kept lent

  abbrev stood : Standing
  stood = StandsFor old.kept old.view

  -- the worker may make a call of a channel that stands for a start for which it works
  pub may_refresh : MayRefreshOn (settings worker) old → MayCall worker before stood
  may_refresh may = record {
    start = may.start;
    contents = may.contents;
    works = works_too worker may.start may.works;
    is_of = is_of_standing old.kept lent old.view may.start may.contents may.stands;
    stands_for = may.stands;
    bound = tt;
  }

  -- and so of one that it may serve
  pub may_call : (verb : Verb) → MayServeOn (settings worker) old tag verb → MayCall worker before stood
  may_call verb may = record {
    start = may.start;
    contents = may.contents;
    works = works_too worker may.start may.works;
    is_of = is_of_standing old.kept lent old.view may.start may.contents may.stands;
    stands_for = may.stands;
    bound = tt;
  }

  -- and a write of the call's data
  pub may_write : (page : ℕ) (content : Content) (data_bytes : List ℕ) → data_bytes ≡ content_bytes worker.shape.bytes content →
      MayServeOn (settings worker) old tag (Verb.Write page content) → MayWrite worker before stood tag data_bytes
  unfolding may_call
  may_write page content data_bytes are may = record {
    may = may_call (Verb.Write page content) may;
    own_data = may.own_data ∙ sym are;
  }

  module _ (new : SeenChannel) (back channels : ℕ) where
    abbrev after : CallerView
    after = view_of_lent new.kept back

    abbrev stands : Standing
    stands = StandsFor new.kept new.view

    -- what the channel stood for it stands for, and so for the worker's settings
    for_each : (verb : Verb) (fact : Start → List (Tag × List ℕ) → Type 0) →
        ((start : Start) (contents : List (Tag × List ℕ)) → WorksFor worker start → IsOf before start contents →
        stood start contents → HasOwnData worker.shape.bytes tag verb contents → stands start contents × fact start contents) →
        ForEach (settings worker) tag verb old new fact
    for_each verb fact each start contents works stands_for own =
        each start contents (works_too worker start works) (is_of_standing old.kept lent old.view start contents stands_for)
        stands_for own

    -- a call with rounds that was cut
    cut_there : (fact : List Entry → List Entry → Type 0) (limit told : ℕ) →
        IsCut fact limit told old.kept.past new.kept.past →
        IsCut fact limit (length new.kept.past) old.kept.past new.kept.past
    cut_there fact limit told cut =
        subst (λ (n : ℕ). IsCut fact limit n old.kept.past new.kept.past) (sym cut.has_length) cut

    -- a write, for some start that the channel may be served for
    module _ (page : ℕ) (content : Content) (data_bytes : List ℕ)
        (are : data_bytes ≡ content_bytes worker.shape.bytes content)
        (may : MayServeOn (settings worker) old tag (Verb.Write page content)) where
      pub write_ends : (result : Result Reply StepStop) → WritesData worker before after stood stands tag data_bytes →
          FindsRoom before after → EndsWrite worker before after stood tag (page / channels) data_bytes result →
          EndsOn (settings worker) channels old new tag (Verb.Write page content) result
      write_ends (Ok reply) goes rooms ends = record {
        rooms = rooms;
        replied =
            for_each (Verb.Write page content)
            (λ start contents.
            IsRepliedBy start contents channels tag (Verb.Write page content) reply old.kept.past new.kept.past)
            (λ start contents works of stands_for own. (
              (goes start contents works of stands_for (own ∙ sym are)).1,
              ends start contents works of stands_for (own ∙ sym are),
            ));
      }
      write_ends (Err (StepStop.HistoryFull told)) goes rooms ends = record {
        rooms = rooms;
        stopped =
            for_each (Verb.Write page content)
            (λ start contents. IsStoppedBy start contents channels tag (Verb.Write page content) old.kept.past new.kept.past)
            (λ start contents works of stands_for own. (
              (goes start contents works of stands_for (own ∙ sym are)).1,
              cut_there (SerialWrite (ladder_of (coding_of start.base) start contents) start.base tag (page / channels))
                  start.limit told (ends start contents works of stands_for (own ∙ sym are)),
            ));
        entries_are =
            sym (ends may.start may.contents (works_too worker may.start may.works)
            (is_of_standing old.kept lent old.view may.start may.contents may.stands) may.stands
            (may.own_data ∙ sym are)).has_length;
      }
      write_ends (Err StepStop.Memory) goes rooms ends =
          for_each (Verb.Write page content)
          (λ start contents. IsBrokenOffBy start contents channels tag (Verb.Write page content) old.kept.past new.kept.past)
          (λ start contents works of stands_for own. (
            (goes start contents works of stands_for (own ∙ sym are)).1,
            ends start contents works of stands_for (own ∙ sym are),
          ))

    -- a collect
    pub collect_ends : (channel : ℕ) → MayServeOn (settings worker) old tag (Verb.Collect channel) →
        (result : Result Reply StepStop) → GoesOnFor worker before after stood stands → FindsRoom before after →
        EndsCollect worker before after stood tag result →
        EndsOn (settings worker) channels old new tag (Verb.Collect channel) result
    collect_ends channel may (Ok reply) goes rooms ends = record {
      rooms = rooms;
      replied =
          for_each (Verb.Collect channel)
          (λ start contents. IsRepliedBy start contents channels tag (Verb.Collect channel) reply old.kept.past new.kept.past)
          (λ start contents works of stands_for own.
          ((goes start contents works of stands_for).1, ends start contents works of stands_for));
    }
    collect_ends channel may (Err (StepStop.HistoryFull told)) goes rooms ends = record {
      rooms = rooms;
      stopped =
          for_each (Verb.Collect channel)
          (λ start contents. IsStoppedBy start contents channels tag (Verb.Collect channel) old.kept.past new.kept.past)
          (λ start contents works of stands_for own. (
            (goes start contents works of stands_for).1,
            cut_there (SerialCollect (ladder_of (coding_of start.base) start contents) start.base tag) start.limit told
                (ends start contents works of stands_for),
          ));
      entries_are =
          sym (ends may.start may.contents (works_too worker may.start may.works)
          (is_of_standing old.kept lent old.view may.start may.contents may.stands) may.stands).has_length;
    }
    collect_ends channel may (Err StepStop.Memory) goes rooms ends =
        for_each (Verb.Collect channel)
        (λ start contents. IsBrokenOffBy start contents channels tag (Verb.Collect channel) old.kept.past new.kept.past)
        (λ start contents works of stands_for own.
        ((goes start contents works of stands_for).1, ends start contents works of stands_for))

    -- a call without rounds that found no room for its first entry
    abbrev IsFirst : Verb → Type 0
    IsFirst verb =
        (start : Start) (contents : List (Tag × List ℕ)) → old.kept.limit ≡ start.limit →
        new.kept.past ≡ old.kept.past → has_first_room start.limit new.kept.past verb ≡ false →
        IsStoppedBy start contents channels tag verb old.kept.past new.kept.past

    full : (verb : Verb) (entries : ℕ) (has_room : Type 0) → IsFirst verb → FindsNoRoom before after has_room entries →
        has_first_room old.kept.limit old.kept.past verb ≡ false →
        ((start : Start) (contents : List (Tag × List ℕ)) → WorksFor worker start → IsOf before start contents →
        stood start contents → stands start contents) →
        IsFullFor (settings worker) channels old new tag verb entries
    full verb entries has_room first finds none goes = record {
      rooms =
          subst (λ (past : List Entry). found_room old.kept.limit old.kept.past ≡ true →
          found_room old.kept.limit past ≡ true) (sym finds.seen_stays) (λ found. found);
      stopped =
          for_each verb (λ start contents. IsStoppedBy start contents channels tag verb old.kept.past new.kept.past)
          (λ start contents works of stands_for own. (
            goes start contents works of stands_for,
            first start contents of.limit_is finds.seen_stays
                (subst (λ (limit : ℕ). has_first_room limit new.kept.past verb ≡ false) of.limit_is
                (subst (λ (past : List Entry). has_first_room old.kept.limit past verb ≡ false) (sym finds.seen_stays) none)),
          ));
      entries_are = finds.told_is ∙ ap (length {A = Entry}) (sym finds.seen_stays);
    }

    -- a read
    pub read_ends : (page : ℕ) (result : Result Reply StepStop) → GoesOnFor worker before after stood stands →
        IfNoRoom before after (HasLookRoom old.kept.limit old.kept.past) result →
        OnMemory result (BreaksOffRead worker before after stood tag (page / channels)) →
        IfOk result (λ reply. RepliesRead worker before after stood tag (page / channels) reply) →
        EndsOn (settings worker) channels old new tag (Verb.Read page) result
    read_ends page (Ok reply) goes room memory ok = record {
      rooms = look_room old.kept.limit old.kept.past room;
      replied =
          for_each (Verb.Read page)
          (λ start contents. IsRepliedBy start contents channels tag (Verb.Read page) reply old.kept.past new.kept.past)
          (λ start contents works of stands_for own.
          ((goes start contents works of stands_for).1, ok start contents works of stands_for));
    }
    read_ends page (Err (StepStop.HistoryFull told)) goes room memory ok =
        full (Verb.Read page) told (HasLookRoom old.kept.limit old.kept.past)
        (λ start contents limit_is same none. record { is_same = same; no_room = none }) room
        (none_for_look old.kept.limit old.kept.past room.no_room)
        (λ start contents works of stands_for. (goes start contents works of stands_for).1)
    read_ends page (Err StepStop.Memory) goes room memory ok =
        for_each (Verb.Read page)
        (λ start contents. IsBrokenOffBy start contents channels tag (Verb.Read page) old.kept.past new.kept.past)
        (λ start contents works of stands_for own. (
          (goes start contents works of stands_for).1,
          elim memory [
            | inl same ↦ inl same
            | inr whole ↦ inr (whole.0, whole.1 start contents works of stands_for)
          ],
        ))

    -- a refresh
    pub refresh_ends : (row : ℕ) (result : Result RefreshReply StepStop) → GoesOnFor worker before after stood stands →
        IfNoRoom before after (HasLookRoom old.kept.limit old.kept.past) result →
        OnMemory result (new.kept.past ≡ old.kept.past) →
        IfOk result (λ reply. RepliesRefresh worker before after stood tag row reply) →
        RefreshEndsOn (settings worker) old new tag row result
    refresh_ends row (Ok reply) goes room memory ok = record {
      has_room = look_room old.kept.limit old.kept.past room;
      refreshed = λ start contents works stands_for.
          let works_here = works_too worker start works in
          let is_of = is_of_standing old.kept lent old.view start contents stands_for in
          ((goes start contents works_here is_of stands_for).1, ok start contents works_here is_of stands_for);
    }
    refresh_ends row (Err (StepStop.HistoryFull told)) goes room memory ok = record {
      past_stays = room.seen_stays;
      no_room = none_for_look old.kept.limit old.kept.past room.no_room;
      entries_are = room.told_is;
      stands = λ start contents works stands_for. (
        (goes start contents (works_too worker start works)
            (is_of_standing old.kept lent old.view start contents stands_for) stands_for).1,
        tt,
      );
    }
    refresh_ends row (Err StepStop.Memory) goes room memory ok = record {
      past_stays = memory;
      stands = λ start contents works stands_for. (
        (goes start contents (works_too worker start works)
            (is_of_standing old.kept lent old.view start contents stands_for) stands_for).1,
        tt,
      );
    }

    -- a call that makes one entry
    module _ (goes : GoesOn before after stood stands) where
      one_entry : (verb : Verb) (fact : Start → List (Tag × List ℕ) → Type 0) →
          ((start : Start) (contents : List (Tag × List ℕ)) → fact start contents) →
          ForEach (settings worker) tag verb old new fact
      one_entry verb fact holds =
          for_each verb fact
          (λ start contents works of stands_for own. ((goes start contents of stands_for).1, holds start contents))

      stopped : (A : Type 0) (verb : Verb) (stop : StepStop) → IsFirst verb →
          has_first_room old.kept.limit old.kept.past verb ≡ has_step_room old.kept.limit old.kept.past →
          IfNoRoom {A = A} before after (HasStepRoom old.kept.limit old.kept.past) (Err stop) →
          ((start : Start) (contents : List (Tag × List ℕ)) → new.kept.past ≡ old.kept.past →
          IsBrokenOffBy start contents channels tag verb old.kept.past new.kept.past) →
          OnMemory {A = A} (Err stop) (new.kept.past ≡ old.kept.past) →
          EndsOn (settings worker) channels old new tag verb (Err stop)
      stopped A verb (StepStop.HistoryFull told) first asks room none memory =
          full verb told (HasStepRoom old.kept.limit old.kept.past) first room
          (asks ∙ none_for_step old.kept.limit old.kept.past room.no_room)
          (λ start contents works of stands_for. (goes start contents of stands_for).1)
      stopped A verb StepStop.Memory first asks room none memory =
          one_entry verb (λ start contents. IsBrokenOffBy start contents channels tag verb old.kept.past new.kept.past)
          (λ start contents. none start contents memory)

      pub trim_ends : (page : ℕ) → HasStepRoom old.kept.limit old.kept.past →
          new.kept.past ≡ after_trim tag (page / channels) old.kept.past →
          IsServedOn (settings worker) channels old new tag (Verb.Trim page) Reply.Ok
      trim_ends page room is = record {
        rooms = step_room old.kept.limit old.kept.past room;
        replied =
            one_entry (Verb.Trim page)
            (λ start contents. IsRepliedBy start contents channels tag (Verb.Trim page) Reply.Ok old.kept.past new.kept.past)
            (λ start contents. (refl, is));
      }

      pub trim_stops : (page : ℕ) (stop : StepStop) →
          IfNoRoom {A = Unit {0}} before after (HasStepRoom old.kept.limit old.kept.past) (Err stop) →
          OnMemory {A = Unit {0}} (Err stop) (new.kept.past ≡ old.kept.past) →
          EndsOn (settings worker) channels old new tag (Verb.Trim page) (Err stop)
      trim_stops page stop room memory =
          stopped (Unit {0}) (Verb.Trim page) stop
          (λ start contents limit_is same none. record { is_same = same; no_room = none }) refl room
          (λ start contents same. same) memory

      pub age_ends : (channel die sb amount : ℕ) (result : Result Reply StepStop) →
          IfNoRoom before after (HasStepRoom old.kept.limit old.kept.past) result →
          OnMemory result (new.kept.past ≡ old.kept.past) →
          IfOk result (λ reply. HasAged tag die sb amount old.kept.past new.kept.past reply) →
          EndsOn (settings worker) channels old new tag (Verb.Age channel die sb amount) result
      age_ends channel die sb amount (Ok reply) room memory aged = record {
        rooms = step_room old.kept.limit old.kept.past room;
        replied =
            one_entry (Verb.Age channel die sb amount)
            (λ start contents. IsRepliedBy start contents channels tag (Verb.Age channel die sb amount) reply old.kept.past
            new.kept.past) (λ start contents. aged);
      }
      age_ends channel die sb amount (Err stop) room memory aged =
          stopped Reply (Verb.Age channel die sb amount) stop
          (λ start contents limit_is same none. record { is_same = same; no_room = none }) refl room
          (λ start contents same. same) memory

    -- and so for a call of such a verb on such a row
    module _ (verb : Verb) (row page : ℕ) (row_is : row ≡ page / channels) where
      pub wrote : (content : Content) → verb ≡ Verb.Write page content → (data_bytes : List ℕ) →
          data_bytes ≡ content_bytes worker.shape.bytes content → MayServeOn (settings worker) old tag verb →
          (result : Result Reply StepStop) → WritesData worker before after stood stands tag data_bytes →
          FindsRoom before after → EndsWrite worker before after stood tag row data_bytes result →
          EndsOn (settings worker) channels old new tag verb result
      wrote content is data_bytes are may result goes rooms ends =
          subst (λ (v : Verb). EndsOn (settings worker) channels old new tag v result) (sym is)
          (write_ends page content data_bytes are (subst (λ (v : Verb). MayServeOn (settings worker) old tag v) is may) result goes
          rooms (subst (λ (n : ℕ). EndsWrite worker before after stood tag n data_bytes result) row_is ends))

      pub has_read : verb ≡ Verb.Read page → (result : Result Reply StepStop) → GoesOnFor worker before after stood stands →
          IfNoRoom before after (HasLookRoom old.kept.limit old.kept.past) result →
          OnMemory result (BreaksOffRead worker before after stood tag row) →
          IfOk result (λ reply. RepliesRead worker before after stood tag row reply) →
          EndsOn (settings worker) channels old new tag verb result
      has_read is result goes room memory ok =
          subst (λ (v : Verb). EndsOn (settings worker) channels old new tag v result) (sym is)
          (read_ends page result goes room
          (subst (λ (n : ℕ). OnMemory result (BreaksOffRead worker before after stood tag n)) row_is memory)
          (subst (λ (n : ℕ). IfOk result (λ reply. RepliesRead worker before after stood tag n reply)) row_is ok))

      pub has_trimmed : verb ≡ Verb.Trim page → GoesOn before after stood stands → HasStepRoom old.kept.limit old.kept.past →
          new.kept.past ≡ after_trim tag row old.kept.past →
          IsServedOn (settings worker) channels old new tag verb Reply.Ok
      has_trimmed is goes room past_is =
          subst (λ (v : Verb). IsServedOn (settings worker) channels old new tag v Reply.Ok) (sym is)
          (trim_ends goes page room (past_is ∙ ap {B = List Entry} (λ (n : ℕ). after_trim tag n old.kept.past) row_is))

      pub trim_is_stopped : verb ≡ Verb.Trim page → GoesOn before after stood stands → (stop : StepStop) →
          IfNoRoom {A = Unit {0}} before after (HasStepRoom old.kept.limit old.kept.past) (Err stop) →
          OnMemory {A = Unit {0}} (Err stop) (new.kept.past ≡ old.kept.past) →
          EndsOn (settings worker) channels old new tag verb (Err stop)
      trim_is_stopped is goes stop room memory =
          subst (λ (v : Verb). EndsOn (settings worker) channels old new tag v (Err stop)) (sym is)
          (trim_stops goes page stop room memory)

    pub has_collected : (verb : Verb) (channel : ℕ) → verb ≡ Verb.Collect channel → MayServeOn (settings worker) old tag verb →
        (result : Result Reply StepStop) → GoesOnFor worker before after stood stands → FindsRoom before after →
        EndsCollect worker before after stood tag result → EndsOn (settings worker) channels old new tag verb result
    has_collected verb channel is may result goes rooms ends =
        subst (λ (v : Verb). EndsOn (settings worker) channels old new tag v result) (sym is)
        (collect_ends channel (subst (λ (v : Verb). MayServeOn (settings worker) old tag v) is may) result goes rooms ends)

    pub has_aged : (verb : Verb) (channel die sb amount : ℕ) → verb ≡ Verb.Age channel die sb amount →
        (result : Result Reply StepStop) → GoesOn before after stood stands →
        IfNoRoom before after (HasStepRoom old.kept.limit old.kept.past) result →
        OnMemory result (new.kept.past ≡ old.kept.past) →
        IfOk result (λ reply. HasAged tag die sb amount old.kept.past new.kept.past reply) →
        EndsOn (settings worker) channels old new tag verb result
    has_aged verb channel die sb amount is result goes room memory ok =
        subst (λ (v : Verb). EndsOn (settings worker) channels old new tag v result) (sym is)
        (age_ends goes channel die sb amount result room memory ok)
