-- How the calls of an input ended, by what they led its channels to and what these gave back.
use Rattle.std.proofs.Common.{ℕ, ◌≡◌, ◌≤◌, List, [], ◌++◌, All, drop, flat_map, length, map, replicate, Option, Ok, refl, sym, subst, ◌∙◌}
use Rattle.std.proofs.lemmas.List.Elements.{All-map}
use Rattle.std.proofs.lemmas.Simd.{map-map}
use Rattle.chan_calls.specs.Workers.{WorkerState}
use Rattle.chan_state.specs.ChannelState.{ChannelState, EndsWhole, parts_of}
use Rattle.ctl.specs.Seen.{SeenChannel, seen}
use Rattle.drive_dies.specs.Mounting.{die_count}
use Rattle.onfi_cmd.specs.DieState.{DieState}
use Rattle.ssd_formats.specs.ImageContents.{ChannelImage}
use Rattle.ssd_formats.specs.ImageHead.{IsHead, head_of}
use Rattle.ssd_formats.specs.Input.{Input}
use Rattle.ssd_formats.specs.Words.{Settings}
use Rattle.ssd_geo.specs.declared.entry.Entry.{Entry}
use Rattle.ssd_geo.specs.declared.head.ImageHead.{ImageHead}
use Rattle.ssd_geo.specs.declared.policy_view.PolicyView.{PolicyView}
use Rattle.ssd_geo.specs.declared.trace.Trace.{Trace}
use Rattle.ssd_histories.specs.History.{history_of}
use Rattle.ssd_top.proofs.EndedChannels.{count_of_led, gave_back, histories_of}
use Rattle.ssd_top.proofs.ServedRuns.{AreSavedBelow, IsSavedAs, served_dies_count, served_is_of_input}
use Rattle.ssd_top.specs.Forms.{input_of}
use Rattle.ssd_top.specs.Running.{IsRunning, Job}
use Rattle.ssd_top.specs.Serving.{IsMadeOf, IsServed, LeadsTo, RunsToEnd, ServesInput, job_of}
use Rattle.ssd_top.specs.declared.served.Served.{Served}
use Rattle.ssd_top.specs.declared.serving.Answered.{Answered}

-- a worker served the calls of a trace on channels that a run began with, and these came to be these items; then they gave back
-- their dies and histories
module _ {A X : Type 0} (old written items : List A) (dies left back : List X) (kept : A → ChannelState)
    (view : A → Option PolicyView)
    (state : X → DieState) (head : ImageHead) (is_head : IsHead (head_of head))
    (saved : ℕ → ChannelImage) (saved_as : IsSavedAs (head_of head) saved)
    (are_saved : AreSavedBelow (head_of head) saved) (settings : Settings) (trace : Trace)
    (views : List (Option PolicyView))
    (enough : die_count head ≤ length (map state dies)) (worker : WorkerState) (same : written ≡ items)
    (running : IsRunning (job_of (input_of (head_of head) saved trace) settings.history (map state dies) views) worker
    (map (λ item. seen (kept item) (view item)) old) [] (replicate trace.actors []) [] 0)
    (all : All (λ item. length (kept item).dies ≡ (kept item).shape.dies) items) (left_are : left ≡ drop (die_count head) dies)
    (back_are : map state back ≡ flat_map (λ item. (kept item).dies) items ++ map state left) where
  abbrev input : Input
  input = input_of (head_of head) saved trace

  abbrev job : Job
  job = job_of input settings.history (map state dies) views

  abbrev channels_in : List A → List SeenChannel
  channels_in list = map (λ item. seen (kept item) (view item)) list

  -- all calls were answered, or those before a stop, and this is to be printed
  pub serves : (histories : List (List Entry)) (answered : Answered) (served : Served)
      → histories ≡ map (λ item. history_of (kept item).past) items
      → served.parts.items ≡ map (λ item. parts_of (kept item)) items → All (λ item. EndsWhole (kept item)) items
      → RunsToEnd worker (channels_in old) (channels_in written) trace answered → IsMadeOf settings.whole head trace histories answered served.printed
      → ServesInput input settings (map state dies) views (map state back) (Ok served)
  serves histories answered served histories_are parts_are whole runs made =
      let leads : LeadsTo job worker (channels_in items) (map (λ list. list.items) answered.replies.items) answered.dropped
      answered.full =
      subst (λ (list : List A). LeadsTo job worker (channels_in list) (map (λ list. list.items) answered.replies.items)
      answered.dropped answered.full)
      same (runs job refl running) in
      let is_served : IsServed input settings.history (map state dies) views (map state back) histories served.parts.items
      answered =
      record {
        worker = worker;
        channels = channels_in items;
        leads = leads;
        histories_are = histories_of kept view state items histories histories_are;
        parts_are =
            parts_are ∙ sym (map-map (λ (channel : SeenChannel). parts_of channel.kept) (λ item. seen (kept item) (view item)) items);
        whole = All-map (λ (channel : SeenChannel). EndsWhole channel.kept) (λ item. seen (kept item) (view item)) items whole;
        give_back =
            gave_back kept view state (head_of head) items dies left back
            (count_of_led job worker (channels_in items) (map (λ list. list.items) answered.replies.items) answered.dropped
            answered.full leads)
            all left_are
            back_are;
      } in (
        served_is_of_input head saved saved_as are_saved settings trace (map state dies) views (map state back) histories answered served is_head is_served made,
        served_dies_count head saved settings.history trace (map state dies) views (map state back) histories served.parts.items
            answered enough is_served,
      )
