-- What a write and a collect come to of a caller that is alone: by what the collector made, each entry found room, and the call
-- was made whole and has its reply, or was cut.
use Rattle.std.proofs.Common.{ℕ, ◌≡◌, true, List, [], None, sym, subst}
use Rattle.std.specs.Prelude.{Result, Ok, Err}
use Rattle.alone_calls.specs.AloneCalls.{EndsCollect, EndsWrite, FindsRoom}
use Rattle.chan_calls.specs.Caller.{CallerView}
use Rattle.chan_calls.specs.Calls.{GoesOnFor, WritesData}
use Rattle.chan_calls.specs.Copied.{CopiesAloneAreCopies}
use Rattle.chan_calls.specs.Stepping.{Standing}
use Rattle.chan_calls.specs.Workers.{MayCall, WorkerState}
use Rattle.collector.proofs.AloneReplies.{collects_are_replied, writes_are_replied}
use Rattle.collector.proofs.AloneRooms.{collects_find_room, writes_find_room}
use Rattle.collector.proofs.AloneRounds.{collects_are_collects}
use Rattle.collector.proofs.AloneStops.{collects_break_off, collects_stop_as_cuts, writes_break_off, writes_stop_as_cuts}
use Rattle.collector.proofs.AloneWrites.{writes_are_writes}
use Rattle.collector.specs.AloneReplies.{reply_to_collect, reply_to_write}
use Rattle.collector.specs.Collects.{MakesCollect}
use Rattle.collector.specs.Writes.{MayWrite, WritesRow}
use Rattle.collector.specs.declared.replies.CollectReply.{CollectReply}
use Rattle.collector.specs.declared.replies.WriteReply.{WriteReply}
use Rattle.ssd_geo.specs.declared.stop.StepStop.{StepStop}
use Rattle.ssd_geo.specs.declared.tag.Tag.{Tag}
use Rattle.ssd_histories.specs.History.{open_looks}
use Rattle.ssd_histories.specs.HistoryRoom.{found_room}

module _ (worker : WorkerState) (old new : CallerView) (stood stands : Standing) (tag : Tag) (copies_are : CopiesAloneAreCopies)
    (alone : old.number ≡ None) where
  -- the room that a start's limit gives is that of the caller's
  by_limit : (limit : ℕ) → old.limit ≡ limit →
      (found_room limit old.seen ≡ true → found_room limit new.seen ≡ true) → FindsRoom old new
  by_limit limit is finds =
      subst (λ (n : ℕ). found_room n old.seen ≡ true → found_room n new.seen ≡ true) (sym is) finds

  module _ (row : ℕ) (data_bytes : List ℕ) where
    -- each entry of a write found room
    pub write_finds_room : MayWrite worker old stood tag data_bytes → (result : Result WriteReply StepStop) →
        WritesRow worker old stood tag row data_bytes new.seen result → FindsRoom old new
    write_finds_room may result made =
        let call = may.may in
        by_limit call.start.limit call.is_of.limit_is
        (writes_find_room copies_are call.start call.contents old tag row old.seen new.seen result alone call.is_of.limit_is
        (made call.start call.contents call.works call.is_of call.stands_for may.own_data))

    module _ (none : open_looks old.seen ≡ []) (goes : WritesData worker old new stood stands tag data_bytes) where
      -- it was made whole
      pub write_whole : (ended : WriteReply) → WritesRow worker old stood tag row data_bytes new.seen (Ok ended) →
          EndsWrite worker old new stood tag row data_bytes (Ok (reply_to_write ended))
      write_whole ended made start contents works is_of stands_for own =
          let this = made start contents works is_of stands_for own in
          let replied = writes_are_replied start contents old tag row old.seen new.seen ended alone this in
          record {
            is_write =
                (writes_are_writes copies_are start contents old tag row old.seen new.seen ended alone
                (goes start contents works is_of stands_for own).0.is_past.is_lawful none this).is_write;
            steps = replied.steps;
            are_steps = replied.are_steps;
            reply_is = replied.reply_is;
          }

      -- or cut, or broken off
      pub write_stopped : (stop : StepStop) → WritesRow worker old stood tag row data_bytes new.seen (Err stop) →
          EndsWrite worker old new stood tag row data_bytes (Err stop)
      write_stopped StepStop.Memory made start contents works is_of stands_for own =
          writes_break_off copies_are start contents old tag row old.seen new.seen alone is_of.limit_is
          (goes start contents works is_of stands_for own).0.is_past.is_lawful none
          (made start contents works is_of stands_for own)
      write_stopped (StepStop.HistoryFull told) made start contents works is_of stands_for own =
          writes_stop_as_cuts copies_are start contents old tag row old.seen new.seen told alone is_of.limit_is
          (goes start contents works is_of stands_for own).0.is_past.is_lawful none
          (made start contents works is_of stands_for own)

  -- each entry of a collect found room
  pub collect_finds_room : MayCall worker old stood → (result : Result CollectReply StepStop) →
      MakesCollect worker old stood tag new.seen result → FindsRoom old new
  collect_finds_room may result made =
      by_limit may.start.limit may.is_of.limit_is
      (collects_find_room copies_are may.start may.contents old tag old.seen new.seen result alone may.is_of.limit_is
      (made may.start may.contents may.works may.is_of may.stands_for))

  module _ (none : open_looks old.seen ≡ []) (goes : GoesOnFor worker old new stood stands) where
    -- it was made whole
    pub collect_whole : (ended : CollectReply) → MakesCollect worker old stood tag new.seen (Ok ended) →
        EndsCollect worker old new stood tag (Ok (reply_to_collect ended))
    collect_whole ended made start contents works is_of stands_for =
        let this = made start contents works is_of stands_for in
        let replied = collects_are_replied start contents old tag old.seen new.seen ended alone this in
        record {
          is_collect =
              (collects_are_collects copies_are start contents old tag old.seen new.seen ended alone
              (goes start contents works is_of stands_for).0.is_past.is_lawful none this).is_collect;
          steps = replied.steps;
          are_steps = replied.are_steps;
          reply_is = replied.reply_is;
        }

    -- or cut, or broken off
    pub collect_stopped : (stop : StepStop) → MakesCollect worker old stood tag new.seen (Err stop) →
        EndsCollect worker old new stood tag (Err stop)
    collect_stopped StepStop.Memory made start contents works is_of stands_for =
        collects_break_off copies_are start contents old tag old.seen new.seen alone is_of.limit_is
        (goes start contents works is_of stands_for).0.is_past.is_lawful none (made start contents works is_of stands_for)
    collect_stopped (StepStop.HistoryFull told) made start contents works is_of stands_for =
        collects_stop_as_cuts copies_are start contents old tag old.seen new.seen told alone is_of.limit_is
        (goes start contents works is_of stands_for).0.is_past.is_lawful none (made start contents works is_of stands_for)
